-- Rows whose digests are compared one by one with the hashes of the pairs below.
use Rattle.std.proofs.Common.{zero, suc, Bool, true, false, not, nat_eq, ◌≡◌, ℕ, ◌+◌, ◌-◌, ◌*◌, ◌/◌, ◌<◌, ◌≤◌, List, [], ◌∷◌, length, get_or, Ok, arith, refl, ap, sym, ◌∙◌, inl, inr}
use Rattle.std.proofs.lemmas.Bool.{cases_lt}
use Rattle.std.specs.Cmp.Lexicographic.{pointwise, same_text, other_text}
use Rattle.ark_base.specs.declared.error.Error.{Error}
use Rattle.ark_base.specs.Outcome.{◌>>=◌}
use Rattle.ark_base.specs.Laws.Steps.{done_injective}
use Rattle.ark_paths.specs.Pair.{Digest}
use Rattle.ark_trees.specs.Rfc6962.{node_hash, node_of}
use Rattle.merkle_log.specs.Log.{NodeHash}
use Rattle.merkle_log.specs.Stored.{StoredValue, row_at, row_pairs, IsStored}
use Rattle.merkle_log.proofs.Edges.{row_pair}
use Rattle.merkle_log.proofs.KeptRows.{length-up}

-- The first digests of a row are the hashes of their pairs.
abbrev pub HashedTo : NodeHash → List Digest → List Digest → ℕ → Type 0
HashedTo hash row next count = (q : ℕ) → q < count → hash (get_or row (2 * q) []) (get_or row (2 * q + 1) [])
    ≡ Ok (get_or next q [])

pub hashed-more : (hash : NodeHash) (row next : List Digest) (count : ℕ) → HashedTo hash row next count
    → hash (get_or row (2 * count) []) (get_or row (2 * count + 1) []) ≡ Ok (get_or next count [])
    → HashedTo hash row next (count + 1)
hashed-more hash row next count so is = λ q below. elim (cases_lt q count) [
  | inl less ↦ so q less
  | inr here ↦ let e : q ≡ count = omega arith in rw (e) is
]

nothing : (next : List Digest) → length next ≡ 0 → next ≡ []
nothing [] none = refl
nothing (digest ∷ next) none = absurd (omega arith)

pub hashed-all : (hash : NodeHash) (row next : List Digest) → length next ≡ length row / 2
    → HashedTo hash row next (length next) → row_pairs hash row ≡ Ok next
hashed-all hash [] next half so = ap Ok (sym (nothing next (omega arith)))
hashed-all hash (a ∷ []) next half so = ap Ok (sym (nothing next (omega arith)))
hashed-all hash (a ∷ b ∷ row) [] half so = absurd (omega arith)
hashed-all hash (a ∷ b ∷ row) (digest ∷ next) half so =
    let rest = hashed-all hash row next (omega arith) (λ q below.
    let two : 2 * suc q ≡ suc (suc (2 * q)) = omega arith in
    let three : 2 * suc q + 1 ≡ suc (suc (2 * q + 1)) = omega arith in
    ap (λ n. hash (get_or (a ∷ b ∷ row) n []) (get_or (a ∷ b ∷ row) (suc (suc (2 * q + 1))) [])) (sym two)
    ∙ ap (λ n. hash (get_or (a ∷ b ∷ row) (2 * suc q) []) (get_or (a ∷ b ∷ row) n [])) (sym three)
    ∙ so (suc q) (omega arith)) in
    ap (λ o. o >>= λ c. row_pairs hash row >>= λ next. Ok (c ∷ next)) (so 0 (omega arith))
    ∙ ap (λ o. o >>= λ next. Ok (digest ∷ next)) rest

-- ---- the rows above the first that has no pair

small-above : (stored : StoredValue) (level d : ℕ) → length (row_at stored level) ≤ 1
    → length (row_at stored (level + d)) ≤ 1
small-above stored level zero low = let e : level + 0 ≡ level = omega arith in rw (e) low
small-above stored level (suc d) low =
    let ih = small-above stored level d low in
    let e : level + suc d ≡ level + d + 1 = omega arith in
    rw (e) (omega (arith, length-up stored (level + d)))

no-pairs : (hash : NodeHash) (row : List Digest) → length row ≤ 1 → row_pairs hash row ≡ Ok []
no-pairs hash [] low = refl
no-pairs hash (a ∷ []) low = refl
no-pairs hash (a ∷ b ∷ row) low = absurd (omega arith)

pub stored-all : (hash : NodeHash) (stored : StoredValue) (level : ℕ)
    → ((l : ℕ) → l < level → row_pairs hash (row_at stored l) ≡ Ok (row_at stored (l + 1)))
    → length (row_at stored level) ≤ 1 → IsStored hash (row_at stored)
stored-all hash stored level so low = record {
  pairs = λ l.
      let e : l + 1 ≡ suc l = omega arith in
      pairs l ∙ ap (λ n. Ok (row_at stored n)) e;
}
  where
    pairs : (l : ℕ) → row_pairs hash (row_at stored l) ≡ Ok (row_at stored (l + 1))
    pairs l = elim (cases_lt l level) [
      | inl less ↦ so l less
      | inr above ↦
          let e : level + (l - level) ≡ l = omega arith in
          let small : length (row_at stored l) ≤ 1 =
          rw (e) at (small-above stored level (l - level) low) in
          no-pairs hash (row_at stored l) small
          ∙ ap Ok (sym (nothing (row_at stored (l + 1)) (omega (arith, length-up stored l))))
    ]

-- A digest that is not the hash of its pair.
pub hashed-not : (row next : List Digest) (q : ℕ) → length next ≡ length row / 2 → q < length next
    → (node_hash (get_or row (2 * q) []) (get_or row (2 * q + 1) []) ≡ get_or next q [] → ⊥)
    → row_pairs node_of row ≡ Ok next → ⊥
hashed-not row next q half below other is =
    other (done_injective {E = Error} _ _ (row_pair node_of row next is q (2 * q) (2 * q + 1) (omega arith) refl
    (omega arith)))

-- ---- what a comparison of digests says

holds : (test r : Bool) → r ≡ not test → r ≡ false → true ≡ test
holds true r is told = refl
holds false r is told = let both = sym is ∙ told in absurd cc

fails : (test r : Bool) → r ≡ not test → r ≡ true → false ≡ test
fails true r is told = let both = sym is ∙ told in absurd cc
fails false r is told = refl

pub same-says : (a b : Digest) (r : Bool) → r ≡ not (pointwise nat_eq a b) → r ≡ false → a ≡ b
same-says a b r is told = same_text a b (holds (pointwise nat_eq a b) r is told)

pub other-says : (a b : Digest) (r : Bool) → r ≡ not (pointwise nat_eq a b) → r ≡ true → a ≡ b → ⊥
other-says a b r is told = other_text a b (fails (pointwise nat_eq a b) r is told)
