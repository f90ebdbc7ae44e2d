-- What the roots of the complete trees of a list make: the root with other digests behind the list.
use Rattle.std.proofs.Common.{zero, suc, ◌≡◌, ℕ, ◌+◌, ◌-◌, ◌%◌, ◌<◌, ◌≤◌, ◌^◌, List, [], ◌∷◌, ◌++◌, length, take, drop, get_or, Ok, arith, pow_pos, refl, ap, sym, ◌∙◌, inl, inr}
use Rattle.std.proofs.Math.Seq.{take-append-add, drop-append-add}
use Rattle.std.proofs.lemmas.Bool.{cases_lt, lt-ltb, le-ltb}
use Rattle.std.proofs.lemmas.List.{append-nil, drop-append-le, drop-map, length-append, length-drop, length-map, length-take-le, nil_from_length, take-append-le, take-map, take_all, drop_all}
use Rattle.std.proofs.lemmas.Nat.{zero_from_ones}
use Rattle.std.specs.Prelude.{count_ones}
use Rattle.ark_base.specs.declared.error.Error.{Error}
use Rattle.ark_base.specs.Outcome.{Outcome}
use Rattle.ark_paths.specs.Pair.{Digest}
use Rattle.merkle_log.specs.Frontier.{complete_pairs, frontier, IsFrontier}
use Rattle.merkle_log.specs.Insertion.{peaks_hash}
use Rattle.merkle_log.specs.Log.{NodeHash}
use Rattle.merkle_log.specs.Trees.{tree_hash}
use Rattle.merkle_log.specs.Walk.{joined}
use Rattle.merkle_log.proofs.Above.{there}
use Rattle.merkle_log.proofs.Inserting.{known-both, known-down, known-one, power-one, some-levels, some-ones, one-or-not}
use Rattle.merkle_log.proofs.Joined.{first-tree, other-trees}
use Rattle.merkle_log.proofs.Peaks.{length-complete_pairs, root-folded}
use Rattle.merkle_log.proofs.Positions.{half_ones}
use Rattle.merkle_log.proofs.Subtrees.{no-ones}
use Rattle.merkle_log.proofs.Tests.{even_test, odd_test, twice}
use Rattle.merkle_log.proofs.Verdicts.{pow_above, tree_hash-levels}

-- ---- frontiers

-- A frontier has a root for each one of its size.
pub length-frontier : {A : Type 0} (join : A → A → A) (none : A) (k : ℕ) (xs : List A) → length xs < 2 ^ k
    → length (frontier join none k xs) ≡ count_ones (length xs)
length-frontier join none zero xs few =
    let e : length xs ≡ 0 = omega arith in sym (ap count_ones e ∙ no-ones)
length-frontier join none (suc k) xs few =
    let pairs = complete_pairs join xs in
    let half = length-complete_pairs join xs in
    let below = length-frontier join none k pairs (omega (arith, half, twice k)) ∙ ap count_ones half in
    let split = half_ones (length xs) in
    let cat = length-append (frontier join none k pairs) in
    elim (cases_lt (length xs % 2) 1) [
      | inl even ↦ rw (even_test (length xs) (omega arith)) (omega (arith, cat [], below, split))
      | inr odd ↦ rw (odd_test (length xs) (omega arith)) (omega
          (arith, cat (get_or xs (length xs - 1) none ∷ []), below, split))
    ]

pub peaks-count : {hash : NodeHash} {digests : List Digest} {size : ℕ} {peaks : List Digest}
    → IsFrontier hash digests size peaks → length peaks ≡ count_ones size
peaks-count {hash} {digests} {size} {peaks} own =
    let all = length-map {B = Outcome Digest} digests Ok in
    sym (length-map {B = Outcome Digest} peaks Ok) ∙ sym (ap length (own.peaks_are [])) ∙ length-frontier (joined hash)
    (Ok []) (length digests) (there digests) (omega (arith, all, pow_above (length digests)))
    ∙ ap count_ones (all ∙ own.size_is)

pub no-frontier : (hash : NodeHash) → IsFrontier hash [] 0 []
no-frontier hash = record { size_is = refl; peaks_are = λ empty. refl }

-- ---- a list's own frontier

pub only-one : {A : Type 0} (xs : List A) → length xs ≡ 1 → (none : A) → xs ≡ get_or xs 0 none ∷ []
only-one (x ∷ []) one none = refl
only-one [] one none = absurd (omega arith)
only-one (x ∷ y ∷ xs) one none = absurd (omega arith)

-- the first of some
pub first-any : (peaks : List Digest) → 0 < length peaks → (none other : Digest) → get_or peaks 0 none
    ≡ get_or (take 1 peaks ++ []) 0 other
first-any [] some none other = absurd (omega arith)
first-any (p ∷ peaks) some none other = refl

pub first-and-rest : (peaks : List Digest) → 0 < length peaks → (none : Digest) → get_or peaks 0 none ∷ drop 1 peaks
    ≡ peaks
first-and-rest [] some none = absurd (omega arith)
first-and-rest (p ∷ peaks) some none = refl

-- A tree of some values does not depend on the hash of none.
pub tree_hash-some : {A : Type 0} (join : A → A → A) (none other : A) (k : ℕ) (xs : List A) → 0 < length xs
    → tree_hash join none k xs ≡ tree_hash join other k xs
tree_hash-some join none other zero [] some = absurd (omega arith)
tree_hash-some join none other zero (x ∷ xs) some = refl
tree_hash-some join none other (suc k) xs some = elim (cases_lt (2 ^ k) (length xs)) [
  | inl more ↦ rw (lt-ltb (2 ^ k) (length xs) more)
      (ap (λ l. join l (tree_hash join none k (drop (2 ^ k) xs))) (tree_hash-some join none other k (take (2 ^ k) xs)
      (omega (arith, length-take-le (2 ^ k) xs (omega arith), pow_pos k)))
      ∙ ap (join (tree_hash join other k (take (2 ^ k) xs))) (tree_hash-some join none other k (drop (2 ^ k) xs)
      (omega (arith, length-drop (2 ^ k) xs))))
  | inr few ↦ rw (le-ltb (2 ^ k) (length xs) few) (tree_hash-some join none other k xs some)
]

module _ (hash : NodeHash) (none empty : Digest) where
  -- one digest is known
  own-one : (k : ℕ) (digests : List Digest) (size : ℕ) (peaks more : List Digest) → IsFrontier hash digests size peaks
      → size + length more ≤ 2 ^ k → length peaks + length more ≡ 1
      → tree_hash (joined hash) (Ok empty) k (there (digests ++ more)) ≡ Ok (get_or (peaks ++ more) 0 none)
  own-one k digests size peaks [] own few one =
      let p = get_or (peaks ++ []) 0 none in
      let all = length-map {B = Outcome Digest} digests Ok in
      let whole : there {E = Error} (digests ++ []) ≡ there digests = ap there (append-nil digests) in
      let single : peaks ≡ p ∷ [] = only-one peaks (omega (arith, one)) none ∙ ap (λ l. get_or l 0 none ∷ [])
      (sym (append-nil peaks)) in
      let high = pow_above (length digests) in
      ap (tree_hash (joined hash) (Ok empty) k) whole
      ∙ sym (tree_hash-levels (joined hash) (Ok empty) k (k + length digests) (there digests) (omega
      (arith, all, few, own.size_is)) (omega arith))
      ∙ tree_hash-levels (joined hash) (Ok empty) (length digests) (k + length digests) (there digests) (omega
      (arith, all, high)) (omega arith)
      ∙ root-folded (joined hash) (Ok empty) (length digests) (there digests) [] (Ok p) (omega (arith, all, high))
      (own.peaks_are empty ∙ ap there single)
  own-one k digests size peaks (m ∷ []) own few one =
      let no_peaks = nil_from_length peaks (omega (arith, one)) in
      let none_here = zero_from_ones size (sym (peaks-count own) ∙ ap length no_peaks) in
      let no_digests = nil_from_length digests (own.size_is ∙ none_here) in
      rw (no_peaks, no_digests) (tree_hash-levels (joined hash) (Ok empty) 0 k (Ok m ∷ []) (omega arith) (omega arith))
  own-one k digests size peaks (m ∷ n ∷ more) own few one = absurd (omega (arith, one))

  -- a list behind whose first 2 ^ k digests there are some
  module _ (k : ℕ) (digests : List Digest) (size : ℕ) (peaks more : List Digest) (own : IsFrontier hash digests size
      peaks) where
    abbrev rows : List (Outcome Digest)
    rows = there (digests ++ more)

    rows-long : length rows ≡ size + length more
    rows-long = length-map {B = Outcome Digest} (digests ++ more) Ok ∙ length-append digests more
        ∙ ap (λ n. n + length more) own.size_is

    first-half : size < 2 ^ k → take (2 ^ k) rows ≡ there (digests ++ take (2 ^ k - size) more)
    first-half low =
        let e : 2 ^ k ≡ length digests + (2 ^ k - size) = omega (arith, own.size_is, low) in
        take-map Ok (2 ^ k) (digests ++ more) ∙ ap there (ap (λ n. take n (digests ++ more)) e
        ∙ take-append-add digests more (2 ^ k - size))

    second-half : size < 2 ^ k → drop (2 ^ k) rows ≡ there (drop (2 ^ k - size) more)
    second-half low =
        let e : 2 ^ k ≡ length digests + (2 ^ k - size) = omega (arith, own.size_is, low) in
        drop-map Ok (2 ^ k) (digests ++ more) ∙ ap there (ap (λ n. drop n (digests ++ more)) e
        ∙ drop-append-add digests more (2 ^ k - size))

    whole-half : 2 ^ k ≤ size → take (2 ^ k) rows ≡ there (take (2 ^ k) digests)
    whole-half high =
        take-map Ok (2 ^ k) (digests ++ more)
        ∙ ap there (take-append-le (2 ^ k) digests more (omega (arith, own.size_is, high)))

    rest-half : 2 ^ k ≤ size → drop (2 ^ k) rows ≡ there (drop (2 ^ k) digests ++ more)
    rest-half high =
        drop-map Ok (2 ^ k) (digests ++ more)
        ∙ ap there (drop-append-le (2 ^ k) digests more (omega (arith, own.size_is, high)))

    first-whole : 2 ^ k ≤ size → size < 2 ^ suc k → tree_hash (joined hash) (Ok empty) k (take (2 ^ k) rows)
        ≡ Ok (get_or (take 1 peaks ++ []) 0 none)
    first-whole high short =
        let front = take (2 ^ k) digests in
        let long : length front ≡ 2 ^ k = length-take-le (2 ^ k) digests (omega (arith, own.size_is, high)) in
        let rows_long = length-map {B = Outcome Digest} front Ok in
        let some : 0 < length peaks = omega (arith, peaks-count own, some-ones size (omega (arith, pow_pos k, high))) in
        ap (tree_hash (joined hash) (Ok empty) k) (whole-half high)
        ∙ sym (tree_hash-levels (joined hash) (Ok empty) k (length front) (there front) (omega (arith, rows_long, long))
        (omega (arith, long, pow_above k)))
        ∙ first-tree own k high short empty ∙ ap Ok (first-any peaks some [] none)

  pub own-hash : (k : ℕ) (digests : List Digest) (size : ℕ) (peaks more : List Digest)
      → IsFrontier hash digests size peaks → size + length more ≤ 2 ^ k → 0 < size + length more
      → peaks_hash hash none k size peaks more ≡ tree_hash (joined hash) (Ok empty) k (there (digests ++ more))
  own-hash zero digests size peaks more own few some = elim (one-or-not (length peaks + length more)) [
    | inl one ↦ known-one hash none 0 size peaks more one ∙ sym (own-one 0 digests size peaks more own few one)
    | inr many ↦ absurd (omega (
      arith,
      some-levels 0 size (length more) some few
          (λ one. many (omega (arith, one, peaks-count own))),
    ))
  ]
  own-hash (suc k) digests size peaks more own few some = elim (one-or-not (length peaks + length more)) [
    | inl one ↦ known-one hash none (suc k) size peaks more one ∙ sym (own-one (suc k) digests size peaks more own few
        one)
    | inr many ↦ elim (cases_lt (2 ^ k) (size + length more)) [
      | inr low ↦
          known-down hash none k size peaks more low ∙ own-hash k digests size peaks more own low some
          ∙ sym (rw (le-ltb (2 ^ k) (length (rows k digests size peaks more own)) (omega
          (arith, rows-long k digests size peaks more own, low))) refl)
      | inl above ↦
          let two = twice k in
          let here = rows-long k digests size peaks more own in
          let count = peaks-count own in
          let up : tree_hash (joined hash) (Ok empty) (suc k) (rows k digests size peaks more own)
          ≡ joined hash (tree_hash (joined hash) (Ok empty) k (take (2 ^ k) (rows k digests size peaks more own)))
          (tree_hash (joined hash) (Ok empty) k (drop (2 ^ k) (rows k digests size peaks more own)))
          = rw (lt-ltb (2 ^ k) (length (rows k digests size peaks more own)) (omega (arith, here, above))) refl in
          elim (cases_lt size (2 ^ k)) [
            | inl low ↦
                let front = take (2 ^ k - size) more in
                let back = drop (2 ^ k - size) more in
                let short : length front ≡ 2 ^ k - size = length-take-le (2 ^ k - size) more (omega
                (arith, above)) in
                let long = length-drop (2 ^ k - size) more in
                let nothing : size - size ≡ 0 = omega arith in
                known-both hash none k size size peaks more (omega (arith, low)) many above
                ∙ ap (λ l. joined hash (peaks_hash hash none k size l front) (peaks_hash hash none k (size - size)
                (drop (count_ones size) peaks) back)) (take_all (count_ones size) peaks (omega (arith, count)))
                ∙ ap (λ o. joined hash o (peaks_hash hash none k (size - size) (drop (count_ones size) peaks) back))
                (own-hash k digests size peaks front own (omega (arith, short, low)) (omega
                (arith, short, low, pow_pos k)) ∙ ap (tree_hash (joined hash) (Ok empty) k)
                (sym (first-half k digests size peaks more own low)))
                ∙ ap (λ l. joined hash (tree_hash (joined hash) (Ok empty) k (take (2 ^ k) (rows k digests size peaks
                more own))) (peaks_hash hash none k (size - size) l back)) (drop_all (count_ones size) peaks (omega
                (arith, count)))
                ∙ ap (λ n. joined hash (tree_hash (joined hash) (Ok empty) k (take (2 ^ k) (rows k digests size peaks
                more own))) (peaks_hash hash none k n [] back)) nothing
                ∙ ap (λ o. joined hash (tree_hash (joined hash) (Ok empty) k (take (2 ^ k) (rows k digests size peaks
                more own))) o) (own-hash k [] 0 [] back (no-frontier hash) (omega (arith, long, few, two, low)) (omega
                (arith, long, above, low)) ∙ ap (tree_hash (joined hash) (Ok empty) k)
                (sym (second-half k digests size peaks more own low)))
                ∙ sym up
            | inr high ↦
                let short : size < 2 ^ suc k = elim (cases_lt size (2 ^ suc k)) [
                  | inl less ↦ less
                  | inr ge ↦ absurd (many (
                      let whole : size ≡ 2 ^ suc k = omega (arith, ge, few) in
                      omega (arith, count, ap count_ones whole, power-one (suc k), few)
                      ))
                ] in
                let nothing : 2 ^ k - 2 ^ k ≡ 0 = omega arith in
                known-both hash none k size (2 ^ k) peaks more (omega (arith, high)) many above
                ∙ ap (λ n. joined hash (peaks_hash hash none k (2 ^ k) (take n peaks) (take (2 ^ k - 2 ^ k) more))
                (peaks_hash hash none k (size - 2 ^ k) (drop n peaks) (drop (2 ^ k - 2 ^ k) more))) (power-one k)
                ∙ ap (λ n. joined hash (peaks_hash hash none k (2 ^ k) (take 1 peaks) (take n more))
                (peaks_hash hash none k (size - 2 ^ k) (drop 1 peaks) (drop n more))) nothing
                ∙ ap (λ o. joined hash o (peaks_hash hash none k (size - 2 ^ k) (drop 1 peaks) more))
                (known-one hash none k (2 ^ k) (take 1 peaks) [] (omega (
                  arith,
                  length-take-le 1 peaks (omega
                      (arith, count, some-ones size (omega (arith, pow_pos k, high)))),
                ))
                ∙ sym (first-whole k digests size peaks more own high short))
                ∙ ap (λ o. joined hash (tree_hash (joined hash) (Ok empty) k (take (2 ^ k) (rows k digests size peaks
                more own))) o) (own-hash k (drop (2 ^ k) digests) (size - 2 ^ k) (drop 1 peaks) more
                (other-trees own k high short) (omega (arith, few, two, high)) (omega (arith, above, high))
                ∙ ap (tree_hash (joined hash) (Ok empty) k) (sym (rest-half k digests size peaks more own high)))
                ∙ sym up
          ]
    ]
  ]
