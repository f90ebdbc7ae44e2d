-- Places that are asked for, level by level.
use Rattle.std.proofs.Common.{zero, suc, ◌≡◌, ℕ, ◌+◌, ◌-◌, ◌/◌, ◌%◌, ◌<◌, ◌≤◌, Option, Some, None, true, false, arith, subst, ◌∙◌, inl, inr}
use Rattle.std.proofs.lemmas.Bool.{cases_lt, le-ltb}
use Rattle.merkle_log.specs.Asked.{Holding, IsBeside, IsLowest, IsPeak, own_count}
use Rattle.merkle_log.specs.Binding.{index_beside}
use Rattle.merkle_log.specs.Walk.{has_beside, index_up}
use Rattle.merkle_log.proofs.KeptRows.{up-rises}
use Rattle.merkle_log.proofs.Positions.{up-more}
use Rattle.merkle_log.proofs.Tests.{even_test, if_odd, if_even}

pub own-least : {A : Type 0} (s : ℕ) (last : Option A) → s ≤ own_count s last
own-least s None = omega arith
own-least s (Some last) = omega arith

pub own-most : {A : Type 0} (s : ℕ) (last : Option A) → own_count s last ≤ s + 1
own-most s None = omega arith
own-most s (Some last) = omega arith

up-one : (l n : ℕ) → index_up l (n + 1) ≤ index_up l n + 1
up-one zero n = omega arith
up-one (suc l) n = elim (cases_lt (n % 2) 1) [
  | inl even ↦ let e : (n + 1) / 2 ≡ n / 2 = omega arith in rw (e) (omega arith)
  | inr odd ↦ let e : (n + 1) / 2 ≡ n / 2 + 1 = omega arith in rw (e) (up-one l (n / 2))
]

-- a digest on the right of an even index
pub right-of : (i s : ℕ) → has_beside i s ≡ true → i % 2 ≡ 0 → i < s
right-of i s stands even = elim (cases_lt i s) [
  | inl less ↦ less
  | inr ge ↦ let no : false ≡ true = rw (even_test i even, le-ltb i s ge) at stands in absurd (cc)
]

-- At the last index only places on the left are asked for.
beside-left : (l j n place : ℕ) → j ≤ n → place ≡ index_beside (index_up l j) → place < index_up l (j + 1)
    → place < index_up l n
beside-left l j n place le is below =
    let one = up-one l j in
    let more = up-rises l j n le in
    elim (cases_lt (index_up l j % 2) 1) [
      | inl even ↦
          absurd (omega (arith, is ∙ if_even (index_up l j) (index_up l j - 1) (index_up l j + 1) (omega arith)))
      | inr odd ↦ omega (arith, is ∙ if_odd (index_up l j) (index_up l j - 1) (index_up l j + 1) (omega arith))
    ]

module _ (holds : ℕ → ℕ → Type 0) where
  here : (level place : ℕ) → holds (level + 0) place → holds level place
  here level place h = let e : level + 0 ≡ level = omega arith in subst (λ k. holds k place) e h

  -- what is held of a level is held of it as one above another
  above : (level l place : ℕ) → holds (level + suc l) place → holds (level + 1 + l) place
  above level l place h =
      let e : level + suc l ≡ level + 1 + l = omega arith in subst (λ k. holds k place) e h

  pub peak-here : (level n place : ℕ) → Holding holds level (IsPeak n) → n % 2 ≡ 1 → n ≡ place + 1 → holds level place
  peak-here level n place held odd is = here level place (held 0 place (odd, is))

  -- one of the complete subtrees into which a list falls
  pub peak-here-at : (size level place : ℕ) → Holding holds 0 (IsPeak size) → index_up level size % 2 ≡ 1
      → index_up level size ≡ place + 1 → holds level place
  peak-here-at size level place held odd is =
      let zero : 0 + level ≡ level = omega arith in subst (λ k. holds k place) zero (held level place (odd, is))

  pub beside-here : (level i n place : ℕ) → Holding holds level (IsBeside i n) → place ≡ index_beside i → place < n
      → holds level place
  beside-here level i n place held is below = here level place (held 0 place (is, below))

  pub peaks-up : (level n half : ℕ) → Holding holds level (IsPeak n) → half ≡ n / 2
      → Holding holds (level + 1) (IsPeak half)
  peaks-up level n half held is = λ l place asked. above level l place (held (suc l) place (rw (is) at asked))

  pub beside-up : (level i n half : ℕ) → Holding holds level (IsBeside i n) → half ≡ n / 2
      → Holding holds (level + 1) (IsBeside (i / 2) half)
  beside-up level i n half held is = λ l place asked. above level l place (held (suc l) place (rw (is) at asked))

  beside-near : (level i s n one : ℕ) → Holding holds level (IsBeside i n) → i / 2 ≡ s / 2 → s ≤ n → one ≡ s / 2 + 1
      → Holding holds (level + 1) (IsBeside (i / 2) one)
  beside-near level i s n one held near le is = λ l place asked.
      let below = rw (is, ← near) at asked.1 in
      above level l place (held (suc l) place (
        asked.0,
        beside-left l (i / 2) (n / 2) place (omega arith) asked.0
            below,
      ))

  -- One level up a path asks for no other places.
  pub beside-next : {A : Type 0} (level i s : ℕ) (last up : Option A) → i ≤ s
      → Holding holds level (IsBeside i (own_count s last))
      → (i / 2 < s / 2 → own_count (s / 2) up ≡ own_count s last / 2)
      → (s / 2 ≤ i / 2 → own_count (s / 2) up ≡ s / 2 + 1)
      → Holding holds (level + 1) (IsBeside (i / 2) (own_count (s / 2) up))
  beside-next level i s last up inside held far near = elim (cases_lt (i / 2) (s / 2)) [
    | inl less ↦ beside-up level i (own_count s last) (own_count (s / 2) up) held (far less)
    | inr ge ↦ beside-near level i s (own_count s last) (own_count (s / 2) up) held (omega arith) (own-least s last)
        (near ge)
  ]

-- ---- the lowest complete subtree of an old size

-- Up to a level the old size has an even number of complete places, and there one more than an index.
pub record Lowering (old level index : ℕ) : Type 0 where
  pub up : index_up level old ≡ index + 1
  pub even : (below : ℕ) → below < level → index_up below old % 2 ≡ 0

pub lowering-first : (old : ℕ) → 0 < old → Lowering old 0 (old - 1)
lowering-first old some = record { up = omega arith; even = λ below less. absurd (omega arith) }

pub lowering-next : {old level index next : ℕ} → Lowering old level index → index % 2 ≡ 1 → next ≡ level + 1
    → Lowering old next (index / 2)
lowering-next {old} {level} {index} {next} at odd is = rw (is) (record {
  up = omega (arith, up-more level old, at.up);
  even = λ below less. elim (cases_lt below level) [
    | inl under ↦ at.even below under
    | inr ge ↦ let e : below ≡ level = omega arith in rw (e) (omega (arith, at.up))
  ];
})

pub lowering-end : {old level index : ℕ} → Lowering old level index → index % 2 ≡ 0 → IsLowest old level index
lowering-end {old} {level} {index} at end = ((omega (arith, at.up), at.up), at.even)
