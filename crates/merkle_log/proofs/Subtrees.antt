-- A complete tree behind others.
use Rattle.std.proofs.Common.{zero, suc, ◌≡◌, ℕ, ◌+◌, ◌-◌, ◌*◌, ◌/◌, ◌%◌, ◌<◌, ◌≤◌, ◌^◌, ◌==◌, if◌then◌else◌, List, [], ◌∷◌, ◌++◌, length, take, drop, get_or, Ok, arith, refl, ap, sym, ◌∙◌, inl, inr, pow_pos}
use Rattle.std.proofs.lemmas.Bool.{cases_lt}
use Rattle.std.proofs.lemmas.List.{get_or-drop, length-append, length-drop, length-map, length-take-le, map-append}
use Rattle.std.proofs.lemmas.Nat.{div-add-mod', ones_cat}
use Rattle.std.proofs.Math.Nat.{add-mul, mod-eq_of_lt, le-mul_of_pos_right}
use Rattle.std.specs.Prelude.{count_ones, OnOk, Result, Err}
use Rattle.ark_paths.specs.Pair.{Digest}
use Rattle.merkle_log.specs.Walk.{joined}
use Rattle.merkle_log.specs.Log.{NodeHash, merkle_tree_hash}
use Rattle.merkle_log.specs.Frontier.{complete_pairs, frontier, HasPeaks, IsFrontier}
use Rattle.merkle_log.specs.Trees.{tree_hash}
use Rattle.merkle_log.proofs.RowsUp.{tree_hash-up}
use Rattle.merkle_log.proofs.Tests.{even_test, odd_test, power-rises, twice, mul-twice}
use Rattle.merkle_log.proofs.Lasts.{Node, node_rows}
use Rattle.merkle_log.proofs.Verdicts.{pow_above, tree_hash-levels}
use Rattle.merkle_log.proofs.Peaks.{row_up-whole, length-complete_pairs, frontier-even, frontier-any}

-- the row some levels up, where each row below has an even number
abbrev pub risen : {A : Type 0} → (A → A → A) → ℕ → List A → List A
risen join zero xs = xs
risen join (suc l) xs = risen join l (complete_pairs join xs)

module _ {A : Type 0} (join : A → A → A) (none : A) where
  pub length-risen : (l q : ℕ) (xs : List A) → length xs ≡ q * 2 ^ l → length (risen join l xs) ≡ q
  length-risen zero q xs long = omega (arith, long)
  length-risen (suc l) q xs long =
      length-risen l q (complete_pairs join xs) (omega (arith, long, length-complete_pairs join xs, mul-twice l q))

  pub pairs-append : (xs ys : List A) → length xs % 2 ≡ 0 → complete_pairs join (xs ++ ys) ≡ complete_pairs join xs
      ++ complete_pairs join ys
  pairs-append [] ys even = refl
  pairs-append (a ∷ []) ys even = absurd (omega arith)
  pairs-append (a ∷ b ∷ rest) ys even = ap (λ l. join a b ∷ l) (pairs-append rest ys (omega arith))

  pub frontier-risen : (l k q : ℕ) (xs : List A) → length xs ≡ q * 2 ^ l → frontier join none (l + k) xs
      ≡ frontier join none k (risen join l xs)
  frontier-risen zero k q xs long = let e : 0 + k ≡ k = omega arith in ap (λ n. frontier join none n xs) e
  frontier-risen (suc l) k q xs long =
      let e : suc l + k ≡ suc (l + k) = omega arith in
      ap (λ n. frontier join none n xs) e
      ∙ frontier-even join none (l + k) xs (omega (arith, long, mul-twice l q))
      ∙ frontier-risen l k q (complete_pairs join xs) (omega
      (arith, long, length-complete_pairs join xs, mul-twice l q))

  pub risen-append : (l q : ℕ) (xs ys : List A) → length xs ≡ q * 2 ^ l → length ys ≡ 2 ^ l
      → risen join l (xs ++ ys) ≡ risen join l xs ++ (tree_hash join none l ys ∷ [])
  risen-append zero q xs [] long one = absurd (omega arith)
  risen-append zero q xs (y ∷ []) long one = refl
  risen-append zero q xs (y ∷ z ∷ ys) long one = absurd (omega arith)
  risen-append (suc l) q xs ys long one =
      let even : length ys % 2 ≡ 0 = omega (arith, one, twice l) in
      ap (risen join l) (pairs-append xs ys (omega (arith, long, mul-twice l q)))
      ∙ risen-append l q (complete_pairs join xs) (complete_pairs join ys) (omega
      (arith, long, length-complete_pairs join xs, mul-twice l q)) (omega
      (arith, one, length-complete_pairs join ys, twice l))
      ∙ ap (λ z. risen join l (complete_pairs join xs) ++ (z ∷ [])) (sym (tree_hash-up join none l ys (omega
      (arith, one)) ∙ ap (tree_hash join none l) (row_up-whole join ys even)))

pub on_ok : {A E P Q : Type 0} (r : Result A E) → (P → Q) → OnOk r P → OnOk r Q
on_ok (Ok x) f p = f p
on_ok (Err e) f p = p

pub multiple-of : (level size : ℕ) → size % 2 ^ level ≡ 0 → size ≡ size / 2 ^ level * 2 ^ level
multiple-of level size aligned = omega (arith, div-add-mod' size (2 ^ level), aligned)

pub level-small : (level size : ℕ) → size + 2 ^ level < 2 ^ 64 → level < 64
level-small level size fits = elim (cases_lt level 64) [
  | inl lt ↦ lt
  | inr ge ↦ absurd (omega (arith, power-rises 64 level ge, fits))
]

pub no-ones : count_ones 0 ≡ 0
unfolding lib.Count.ones
no-ones = refl

-- the shift of one by a level, as the machine takes it
pub power-fits : (level size : ℕ) → size + 2 ^ level < 2 ^ 64
    → size + 1 * 2 ^ level % 18446744073709551616 ≡ size + 2 ^ level
power-fits level size fits =
    let one : 1 * 2 ^ level ≡ 2 ^ level = omega arith in
    let small : 1 * 2 ^ level < 18446744073709551616 = omega (arith, one, fits) in
    omega (arith, one, mod-eq_of_lt small)

pub ones-up : (level size : ℕ) → size % 2 ^ level ≡ 0 → count_ones size ≡ count_ones (size / 2 ^ level)
ones-up level size aligned =
    let e : size ≡ size / 2 ^ level * 2 ^ level + 0 = omega (arith, multiple-of level size aligned) in
    ap count_ones e ∙ ones_cat level (size / 2 ^ level) 0 (pow_pos level) ∙ omega (arith, no-ones)

pub ones-more : (level size : ℕ) → size % 2 ^ level ≡ 0
    → count_ones (size + 2 ^ level) ≡ count_ones (size / 2 ^ level + 1)
ones-more level size aligned =
    let q = size / 2 ^ level in
    let e : size + 2 ^ level ≡ (q + 1) * 2 ^ level + 0 = omega
    (arith, multiple-of level size aligned, add-mul q 1 (2 ^ level)) in
    ap count_ones e ∙ ones_cat level (q + 1) 0 (pow_pos level) ∙ omega (arith, no-ones)

module _ {hash : NodeHash} (level q : ℕ) where
  -- the peaks of a list whose length is a multiple of a tree's are those of the row that many levels up
  pub peaks-up : {digests : List Digest} {size : ℕ} {peaks : List Digest} → IsFrontier hash digests size peaks
      → size ≡ q * 2 ^ level → HasPeaks hash (risen (joined hash) level (node_rows digests)) peaks
  peaks-up {digests} {size} {peaks} own size_is =
      let long : length (node_rows digests) ≡ q * 2 ^ level = length-map digests Ok ∙ own.size_is ∙ size_is in
      let count = length-map {B = Node} digests Ok in
      record {
        at = λ empty levels high. frontier-any (joined hash) (Ok empty) levels (length digests) row high (omega
            (arith, up, count, own.size_is, size_is, few, pow_above (length digests)))
            ∙ sym (frontier-risen (joined hash) (Ok empty) level (length digests) q (node_rows digests) long)
            ∙ frontier-any (joined hash) (Ok empty) (level + length digests) (length digests) (node_rows digests)
            (omega (arith, count, pow_above (level + length digests)))
            (omega (arith, count, pow_above (length digests)))
            ∙ own.peaks_are empty;
      }
    where
      row : List Node
      row = risen (joined hash) level (node_rows digests)

      up : length row ≡ q
      up = length-risen (joined hash) (Ok []) level q (node_rows digests) (length-map digests Ok ∙ own.size_is
          ∙ size_is)

      few : q ≤ q * 2 ^ level
      few = le-mul_of_pos_right q (pow_pos level)

  -- The peaks of that row with a tree's root behind are those of the list with the tree behind.
  pub peaks-down : {digests : List Digest} {size new : ℕ} {peaks after : List Digest} {root : Digest}
      (more : List Digest) (empty : Digest) → IsFrontier hash digests size peaks
      → size ≡ q * 2 ^ level
      → length more ≡ 2 ^ level
      → merkle_tree_hash hash empty more ≡ Ok root
      → new ≡ size + 2 ^ level
      → HasPeaks hash (risen (joined hash) level (node_rows digests) ++ (Ok root ∷ [])) after
      → IsFrontier hash (digests ++ more) new after
  peaks-down {digests} {size} {new} {peaks} {after} {root} more empty own size_is one is new_is above = record {
    size_is = length-append digests more ∙ omega (arith, own.size_is, one, new_is);
    peaks_are = λ none.
        frontier-any (joined hash) (Ok none) (length both) (level + length both) (node_rows both) (omega
        (arith, count, pow_above (length both))) (omega (arith, count, pow_above (level + length both)))
        ∙ frontier-risen (joined hash) (Ok none) level (length both) (q + 1) (node_rows both) long
        ∙ ap (frontier (joined hash) (Ok none) (length both)) row
        ∙ above.at none (length both) (omega (
          arith,
          ap length row,
          length-risen (joined hash) (Ok none) level (q + 1)
              (node_rows both) long,
          few,
          count,
          long,
          pow_above (length both),
        ));
  }
    where
      both : List Digest
      both = digests ++ more

      count : length (node_rows both) ≡ length both
      count = length-map {B = Node} both Ok

      more_rows : length (node_rows more) ≡ 2 ^ level
      more_rows = length-map {B = Node} more Ok ∙ one

      digest_rows : length (node_rows digests) ≡ q * 2 ^ level
      digest_rows = length-map {B = Node} digests Ok ∙ own.size_is ∙ size_is

      long : length (node_rows both) ≡ (q + 1) * 2 ^ level
      long = count ∙ length-append digests more ∙ omega (arith, own.size_is, size_is, one, add-mul q 1 (2 ^ level))

      few : q + 1 ≤ (q + 1) * 2 ^ level
      few = le-mul_of_pos_right (q + 1) (pow_pos level)

      row : risen (joined hash) level (node_rows both) ≡ risen (joined hash) level (node_rows digests) ++ (Ok root ∷ [])
      row =
          ap (risen (joined hash) level) (map-append Ok digests more)
          ∙ risen-append (joined hash) (Ok empty) level q (node_rows digests) (node_rows more) digest_rows more_rows
          ∙ ap (λ z. risen (joined hash) level (node_rows digests) ++ (z ∷ [])) (sym (tree_hash-levels (joined hash)
          (Ok empty) level (length more) (node_rows more) (omega (arith, more_rows)) (omega
          (arith, one, pow_above level))) ∙ is)

-- ---- the largest tree of a list, and the frontier of what stands behind it

module _ {A : Type 0} (join : A → A → A) (none : A) where
  take-pairs : (c d : ℕ) (xs : List A) → d ≡ c + c → take c (complete_pairs join xs) ≡ complete_pairs join (take d xs)
  take-pairs zero zero xs e = refl
  take-pairs (suc c) (suc (suc d)) [] e = refl
  take-pairs (suc c) (suc (suc d)) (a ∷ []) e = refl
  take-pairs (suc c) (suc (suc d)) (a ∷ b ∷ rest) e = ap (λ l. join a b ∷ l) (take-pairs c d rest (omega arith))
  take-pairs c d xs e = absurd (omega arith)

  drop-pairs : (c d : ℕ) (xs : List A) → d ≡ c + c → d ≤ length xs → drop c (complete_pairs join xs)
      ≡ complete_pairs join (drop d xs)
  drop-pairs zero zero xs e le = refl
  drop-pairs (suc c) (suc (suc d)) [] e le = absurd (omega arith)
  drop-pairs (suc c) (suc (suc d)) (a ∷ []) e le = absurd (omega arith)
  drop-pairs (suc c) (suc (suc d)) (a ∷ b ∷ rest) e le = drop-pairs c d rest (omega arith) (omega arith)
  drop-pairs c d xs e le = absurd (omega arith)

  abbrev last_odd : List A → List A
  last_odd xs = if length xs % 2 == 1 then (get_or xs (length xs - 1) none ∷ []) else []

  odd-drop : (d c : ℕ) (xs : List A) → d ≡ c + c → d ≤ length xs → last_odd (drop d xs) ≡ last_odd xs
  odd-drop d c xs e le = elim (cases_lt (length xs % 2) 1) [
    | inl even ↦ rw (
      even_test (length xs) (omega arith),
      even_test (length (drop d xs)) (omega
          (arith, length-drop d xs)),
    ) refl
    | inr odd ↦ rw (
      odd_test (length xs) (omega arith),
      odd_test (length (drop d xs)) (omega
          (arith, length-drop d xs)),
    ) (ap (λ z. z ∷ []) (get_or-drop d xs (length (drop d xs) - 1) none
        ∙ ap (λ n. get_or xs n none) (omega (arith, length-drop d xs, odd))))
  ]

  pub frontier-first : (j : ℕ) (xs : List A) → 2 ^ j ≤ length xs → length xs < 2 ^ suc j
      → frontier join none (suc j) xs ≡ tree_hash join none j (take (2 ^ j) xs) ∷ frontier join none j
      (drop (2 ^ j) xs)
  frontier-first zero [] ge less = absurd (omega arith)
  frontier-first zero (a ∷ []) ge less = refl
  frontier-first zero (a ∷ b ∷ xs) ge less = absurd (omega arith)
  frontier-first (suc j) xs ge less =
      let long = length-complete_pairs join xs in
      let half = take (2 ^ suc j) xs in
      let few : length half ≡ 2 ^ suc j = length-take-le (2 ^ suc j) xs ge in
      ap (λ l. l ++ last_odd xs) (frontier-first j (complete_pairs join xs) (omega (arith, long, twice j))
      (omega (arith, long, twice (suc j))) ∙ ap (λ l. tree_hash join none j l ∷ frontier join none j (drop (2 ^ j)
      (complete_pairs join xs))) (take-pairs (2 ^ j) (2 ^ suc j) xs (twice j)))
      ∙ ap (λ l. tree_hash join none j (complete_pairs join half) ∷ (frontier join none j l ++ last_odd xs)) (drop-pairs
      (2 ^ j) (2 ^ suc j) xs (twice j) ge)
      ∙ ap (λ l. tree_hash join none j (complete_pairs join half) ∷ (frontier join none j (complete_pairs join
      (drop (2 ^ suc j) xs)) ++ l)) (sym (odd-drop (2 ^ suc j) (2 ^ j) xs (twice j) ge))
      ∙ ap (λ z. z ∷ frontier join none (suc j) (drop (2 ^ suc j) xs)) (sym (tree_hash-up join none j half (omega
      (arith, few)) ∙ ap (tree_hash join none j) (row_up-whole join half (omega (arith, few, twice j)))))
