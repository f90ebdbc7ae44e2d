-- Frontiers against trees.
use Rattle.std.proofs.Common.{zero, suc, ◌≡◌, ℕ, ◌+◌, ◌-◌, ◌/◌, ◌%◌, ◌<◌, ◌≤◌, ◌^◌, ◌==◌, if◌then◌else◌, List, [], ◌∷◌, ◌++◌, length, take, get_or, arith, refl, ap, sym, ◌∙◌, inl, inr}
use Rattle.std.proofs.lemmas.Bool.{cases_lt}
use Rattle.std.proofs.lemmas.List.{length-append, length-take-le, append-nil, take_more, take_all, same_from_push, get_or_push}
use Rattle.merkle_log.specs.Trees.{tree_hash}
use Rattle.merkle_log.specs.Frontier.{complete_pairs, frontier}
use Rattle.merkle_log.proofs.RowsUp.{row_up, tree_hash-up}
use Rattle.merkle_log.proofs.Tests.{twice, odd_test, even_test, power-rises, stays}

pub length-complete_pairs : {A : Type 0} (join : A → A → A) (xs : List A) → length (complete_pairs join xs)
    ≡ length xs / 2
length-complete_pairs join [] = refl
length-complete_pairs join (a ∷ []) = refl
length-complete_pairs join (a ∷ b ∷ rest) = omega (arith, length-complete_pairs join rest)

-- ---- one value more

pairs-even : {A : Type 0} (join : A → A → A) (xs : List A) (x : A) → length xs % 2 ≡ 0 → complete_pairs join
    (xs ++ (x ∷ [])) ≡ complete_pairs join xs
pairs-even join [] x even = refl
pairs-even join (a ∷ []) x even = absurd (omega arith)
pairs-even join (a ∷ b ∷ rest) x even = ap (λ l. join a b ∷ l) (pairs-even join rest x (omega arith))

pairs-odd : {A : Type 0} (join : A → A → A) (none : A) (xs : List A) (x : A) → length xs % 2 ≡ 1 → complete_pairs join
    (xs ++ (x ∷ [])) ≡ complete_pairs join xs ++ (join (get_or xs (length xs - 1) none) x ∷ [])
pairs-odd join none [] x odd = absurd (omega arith)
pairs-odd join none (a ∷ []) x odd = refl
pairs-odd join none (a ∷ b ∷ rest) x odd =
    let at : length (a ∷ b ∷ rest) - 1 ≡ suc (suc (length rest - 1)) = omega arith in
    ap (λ l. join a b ∷ l) (pairs-odd join none rest x (omega arith))
    ∙ ap (λ n. join a b ∷ (complete_pairs join rest ++ (join (get_or (a ∷ b ∷ rest) n none) x ∷ []))) (sym at)

row_up-even : {A : Type 0} (join : A → A → A) (xs : List A) (x : A) → length xs % 2 ≡ 0 → row_up join (xs ++ (x ∷ []))
    ≡ complete_pairs join xs ++ (x ∷ [])
row_up-even join [] x even = refl
row_up-even join (a ∷ []) x even = absurd (omega arith)
row_up-even join (a ∷ b ∷ rest) x even = ap (λ l. join a b ∷ l) (row_up-even join rest x (omega arith))

pub row_up-whole : {A : Type 0} (join : A → A → A) (xs : List A) → length xs % 2 ≡ 0 → row_up join xs
    ≡ complete_pairs join xs
row_up-whole join [] even = refl
row_up-whole join (a ∷ []) even = absurd (omega arith)
row_up-whole join (a ∷ b ∷ rest) even = ap (λ l. join a b ∷ l) (row_up-whole join rest (omega arith))

row_up-odd : {A : Type 0} (join : A → A → A) (none : A) (xs : List A) (x : A) → length xs % 2 ≡ 1
    → row_up join (xs ++ (x ∷ [])) ≡ complete_pairs join xs ++ (join (get_or xs (length xs - 1) none) x ∷ [])
row_up-odd join none xs x odd =
    row_up-whole join (xs ++ (x ∷ [])) (omega (arith, length-append xs (x ∷ []))) ∙ pairs-odd join none xs x odd

-- ---- frontiers by levels

pub frontier-odd : {A : Type 0} (join : A → A → A) (none : A) (k : ℕ) (xs : List A) → length xs % 2 ≡ 1 → frontier join
    none (suc k) xs ≡ frontier join none k (complete_pairs join xs) ++ (get_or xs (length xs - 1) none ∷ [])
frontier-odd join none k xs odd = rw (odd_test (length xs) odd) refl

pub frontier-even : {A : Type 0} (join : A → A → A) (none : A) (k : ℕ) (xs : List A) → length xs % 2 ≡ 0 → frontier join
    none (suc k) xs ≡ frontier join none k (complete_pairs join xs)
frontier-even join none k xs even =
    rw (even_test (length xs) even) (append-nil (frontier join none k (complete_pairs join xs)))

-- with one value more: an even number has it behind
pub frontier-push_even : {A : Type 0} (join : A → A → A) (none : A) (k : ℕ) (xs : List A) (x : A) → length xs % 2 ≡ 0
    → frontier join none (suc k) (xs ++ (x ∷ [])) ≡ frontier join none (suc k) xs ++ (x ∷ [])
frontier-push_even join none k xs x even =
    let at : length (xs ++ (x ∷ [])) - 1 ≡ length xs = omega (arith, length-append xs (x ∷ [])) in
    frontier-odd join none k (xs ++ (x ∷ [])) (omega (arith, length-append xs (x ∷ [])))
    ∙ ap (λ l. frontier join none k l ++ (get_or (xs ++ (x ∷ [])) (length (xs ++ (x ∷ [])) - 1) none ∷ []))
    (pairs-even join xs x even)
    ∙ ap (λ z. frontier join none k (complete_pairs join xs) ++ (z ∷ [])) (ap (λ n. get_or (xs ++ (x ∷ [])) n none) at
    ∙ get_or_push xs x none (length xs) refl)
    ∙ ap (λ l. l ++ (x ∷ [])) (sym (frontier-even join none k xs even))

-- and in an odd number it is joined with the last
pub frontier-push_odd : {A : Type 0} (join : A → A → A) (none : A) (k : ℕ) (xs : List A) (x : A) → length xs % 2 ≡ 1
    → frontier join none (suc k) (xs ++ (x ∷ [])) ≡ frontier join none k
    (complete_pairs join xs ++ (join (get_or xs (length xs - 1) none) x ∷ []))
frontier-push_odd join none k xs x odd =
    frontier-even join none k (xs ++ (x ∷ [])) (omega (arith, length-append xs (x ∷ [])))
    ∙ ap (frontier join none k) (pairs-odd join none xs x odd)

fewer_pairs : {A : Type 0} (join : A → A → A) (k : ℕ) (xs : List A) → length xs < 2 ^ suc k
    → length (complete_pairs join xs) < 2 ^ k
fewer_pairs join k xs high = omega (arith, twice k, length-complete_pairs join xs)

pub frontier-levels : {A : Type 0} (join : A → A → A) (none : A) (k : ℕ) (xs : List A) → length xs < 2 ^ k
    → frontier join none (suc k) xs ≡ frontier join none k xs
frontier-levels join none zero [] high = refl
frontier-levels join none zero (x ∷ xs) high = absurd (omega arith)
frontier-levels join none (suc k) xs high =
    ap (λ l. l ++ (if length xs % 2 == 1 then (get_or xs (length xs - 1) none ∷ []) else [])) (frontier-levels join none
    k (complete_pairs join xs) (fewer_pairs join k xs high))

-- Any two counts of levels that are high enough make the same.
pub frontier-any : {A : Type 0} (join : A → A → A) (none : A) (j k : ℕ) (xs : List A) → length xs < 2 ^ j
    → length xs < 2 ^ k → frontier join none j xs ≡ frontier join none k xs
frontier-any join none j k xs low high = sym (up j low (omega arith)) ∙ up k high (omega arith)
  where
    up : (m : ℕ) → length xs < 2 ^ m → m ≤ j + k → frontier join none (j + k) xs ≡ frontier join none m xs
    up m less le =
        stays (λ n. frontier join none n xs) m (j + k) le
        (λ n le. frontier-levels join none n xs (omega (arith, power-rises m n le)))

-- ---- the root of a frontier

-- a last value joined with those before it, from the right
abbrev pub folded : {A : Type 0} → (A → A → A) → List A → A → A
folded join [] x = x
folded join (p ∷ ps) x = join p (folded join ps x)

pub folded-push : {A : Type 0} (join : A → A → A) (ps : List A) (p x : A) → folded join (ps ++ (p ∷ [])) x
    ≡ folded join ps (join p x)
folded-push join [] p x = refl
folded-push join (q ∷ ps) p x = ap (join q) (folded-push join ps p x)

-- a tree with one value behind others
pub tree_hash-folded : {A : Type 0} (join : A → A → A) (none : A) (k : ℕ) (xs : List A) (x : A) → length xs < 2 ^ k
    → tree_hash join none k (xs ++ (x ∷ [])) ≡ folded join (frontier join none k xs) x
tree_hash-folded join none zero [] x high = refl
tree_hash-folded join none zero (a ∷ xs) x high = absurd (omega arith)
tree_hash-folded join none (suc k) xs x high =
    tree_hash-up join none k (xs ++ (x ∷ [])) (omega (arith, length-append xs (x ∷ [])))
    ∙ elim (cases_lt (length xs % 2) 1) [
      | inl even ↦
          ap (tree_hash join none k) (row_up-even join xs x (omega arith)) ∙ tree_hash-folded join none k
          (complete_pairs join xs) x (fewer_pairs join k xs high)
          ∙ ap (λ l. folded join l x) (sym (frontier-even join none k xs (omega arith)))
      | inr odd ↦
          let last = get_or xs (length xs - 1) none in
          ap (tree_hash join none k) (row_up-odd join none xs x (omega arith)) ∙ tree_hash-folded join none k
          (complete_pairs join xs) (join last x) (fewer_pairs join k xs high)
          ∙ sym (folded-push join (frontier join none k (complete_pairs join xs)) last x) ∙ ap (λ l. folded join l x)
          (sym (frontier-odd join none k xs (omega arith)))
    ]

-- The root of a list is that of its frontier.
pub root-folded : {A : Type 0} (join : A → A → A) (none : A) (k : ℕ) (xs : List A) (ps : List A) (p : A)
    → length xs < 2 ^ k → frontier join none k xs ≡ ps ++ (p ∷ []) → tree_hash join none k xs ≡ folded join ps p
root-folded join none zero xs [] p high is = absurd cc
root-folded join none zero xs (q ∷ ps) p high is = absurd cc
root-folded join none (suc k) xs ps p high is =
    elim (cases_lt (length xs % 2) 1) [
      | inl even ↦
          tree_hash-up join none k xs (omega arith) ∙ ap (tree_hash join none k) (row_up-whole join xs (omega arith))
          ∙ root-folded join none k (complete_pairs join xs) ps p (fewer_pairs join k xs high)
          (sym (frontier-even join none k xs (omega arith)) ∙ is)
      | inr odd ↦
          let last = get_or xs (length xs - 1) none in
          let front = take (length xs - 1) xs in
          let one : length xs - 1 + 1 ≡ length xs = omega arith in
          let lf : length front ≡ length xs - 1 = length-take-le (length xs - 1) xs (omega arith) in
          let cut : xs ≡ front ++ (last ∷ []) = sym (take_all (length xs) xs (omega arith)) ∙ ap (λ n. take n xs)
          (sym one) ∙ take_more xs (length xs - 1) none (omega arith) in
          let parts = same_from_push (frontier join none k (complete_pairs join xs)) ps last p
          (sym (frontier-odd join none k xs (omega arith)) ∙ is) in
          ap (tree_hash join none (suc k)) cut ∙ tree_hash-folded join none (suc k) front last (omega arith)
          ∙ ap (λ l. folded join l last) (frontier-even join none k front (omega arith) ∙ ap (frontier join none k)
          (sym (pairs-even join front last (omega arith)) ∙ ap (complete_pairs join) (sym cut)) ∙ parts.0)
          ∙ ap (folded join ps) parts.1
    ]
