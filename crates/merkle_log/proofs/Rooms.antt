-- A path that is written to a list with as many places as it has digests.
use Rattle.std.proofs.Common.{zero, suc, ◌≡◌, ℕ, ◌+◌, ◌-◌, ◌/◌, ◌%◌, ◌<◌, ◌≤◌, ◌^◌, Bool, true, false, ◌==◌, if◌then◌else◌, List, length, map, take, arith, refl, ap, subst, sym, ◌∙◌, inl, inr}
use Rattle.std.proofs.lemmas.Bool.{cases_lt, eq-eqb, ne_eqb}
use Rattle.std.proofs.lemmas.List.{take_all}
use Rattle.ark_paths.specs.Pair.{Digest}
use Rattle.merkle_log.specs.Received.{consistency_length, inclusion_length}
use Rattle.merkle_log.specs.Walk.{has_beside, used_below}
use Rattle.merkle_log.proofs.Lengths.{Counts, Leads, counts-alone, counts-right, leads-even, leads-odd, used-same}
use Rattle.merkle_log.proofs.Tests.{twice}
use Rattle.merkle_log.proofs.Verdicts.{pow_above}

-- ---- places

-- all places
pub take-path : {A : Type 0} (numbers : A → Digest) (path : List A) (at : ℕ) → at ≡ length path
    → map numbers (take at path) ≡ map numbers path
take-path numbers path at all = ap (map numbers) (take_all at path (omega arith))

-- ---- as many as the way of an index has digests

pub counts-first : {i s used total : ℕ} → i ≤ s → ((k : ℕ) → s < 2 ^ k → used + used_below k i s ≡ total)
    → Counts i s used total
counts-first {i} {s} inside room = record { levels = s; high = pow_above s; inside = inside; is = room s (pow_above s) }

-- one level up
pub counts-next : {i s used total : ℕ} → Counts i s used total → 0 < s → (next : ℕ)
    → next ≡ (if has_beside i s then used + 1 else used) → Counts (i / 2) (s / 2) next total
counts-next {i} {s} {used} {total} at some next is = go (has_beside i s) refl
  where
    go : (test : Bool) → has_beside i s ≡ test → Counts (i / 2) (s / 2) next total
    go true beside =
        let one : used + 1 ≡ next = sym (is ∙ (rw (beside) refl)) in
        subst (λ n. Counts (i / 2) (s / 2) n total) one (counts-right at some beside)
    go false alone =
        let none : used ≡ next = sym (is ∙ (rw (alone) refl)) in
        subst (λ n. Counts (i / 2) (s / 2) n total) none (counts-alone at some alone)

-- A digest that stands beside has a place.
pub counts-room : {i s used total : ℕ} → Counts i s used total → 0 < s → has_beside i s ≡ true → used < total
counts-room at some beside = let next = counts-right at some beside in omega (arith, next.is)

-- the places for a path from its first level on
pub room-first : (i size places : ℕ) → i < size → places ≡ inclusion_length size i → (k : ℕ) → size - 1 < 2 ^ k
    → 0 + used_below k i (size - 1) ≡ places
room-first i size places inside is k high =
    omega (arith, is, used-same k size i (size - 1) high (omega (arith, pow_above size)) (omega arith))

-- ---- as many as a consistency proof has digests

pub leads-start : (old_size size places : ℕ) → 0 < old_size → old_size < size
    → places ≡ consistency_length old_size size
    → Leads (old_size - 1) (size - 1) places
leads-start old_size size places some inside is = record {
  levels = size;
  high = omega (arith, pow_above size);
  inside = omega arith;
  is = sym (is ∙ (rw (ne_eqb old_size size (λ same. omega arith)) refl));
}

-- the places for the path behind the digest that stands first
pub leads-room : {i s total : ℕ} → Leads i s total → i % 2 ≡ 0 → (seed : ℕ) → seed ≡ (if i == 0 then 0 else 1)
    → (k : ℕ) → s < 2 ^ k → seed + used_below k i s ≡ total
leads-room {i} {s} at even seed is k high =
    leads-even at even seed (used_below k i s) (sym is)
    (λ j low. used-same k j i s high low (omega (arith, at.inside)))

pub leads-some : {i s total : ℕ} → Leads i s total → i % 2 ≡ 0 → 0 < i → 0 < total
leads-some {i} {s} at even some =
    omega (arith, leads-room at even 1 (sym (rw (ne_eqb i 0 (λ none. omega arith)) refl)) s (pow_above s))

-- ---- at most 64 digests

used-most : (k i s : ℕ) → used_below k i s ≤ k
used-most zero i s = omega arith
used-most (suc k) i s =
    let n = used_below k (i / 2) (s / 2) in
    let most = used-most k (i / 2) (s / 2) in
    elim (has_beside i s) as (λ test. (if test then suc n else n) ≤ suc k) [
      | true ↦ omega (arith, most)
      | false ↦ omega (arith, most)
    ]

pub inclusion-most : (size index : ℕ) → index < size → size < 2 ^ 63 → inclusion_length size index ≤ 64
inclusion-most size index inside fits =
    omega (
      arith,
      used-same size 63 index (size - 1) (omega (arith, pow_above size)) (omega arith) (omega arith),
      used-most 63 index (size - 1),
    )

seed-most : (i : ℕ) → (if i == 0 then 0 else 1) ≤ 1
seed-most i = elim (i == 0) as (λ test. (if test then 0 else 1) ≤ 1) [ true ↦ omega arith | false ↦ omega arith ]

leads-most : (k : ℕ) {i s total : ℕ} → Leads i s total → s < 2 ^ k → total ≤ suc k
leads-most zero at high = absurd (omega (arith, at.inside))
leads-most (suc k) {i} {s} {total} at high =
    elim (cases_lt (i % 2) 1) [
      | inl even ↦
          let room = leads-room at (omega arith) (if i == 0 then 0 else 1) refl (suc k) high in
          omega (arith, room, used-most (suc k) i s, seed-most i)
      | inr odd ↦
          let two = twice k in
          let up = leads-most k (leads-odd at (omega arith)) (omega arith) in
          omega (arith, up)
    ]

pub consistency-most : (old_size size : ℕ) → 0 < old_size → old_size ≤ size → size < 2 ^ 63
    → consistency_length old_size size ≤ 64
consistency-most old_size size some older fits =
    elim (cases_lt old_size size) [
      | inl less ↦
          leads-most 63 (leads-start old_size size (consistency_length old_size size) some less refl) (omega arith)
      | inr same ↦
          let none : consistency_length old_size size ≡ 0 = rw (eq-eqb old_size size (omega arith)) refl in
          omega (arith, none)
    ]
