-- Trees row by row.
use Rattle.std.proofs.Common.{zero, suc, ◌≡◌, ℕ, ◌+◌, ◌/◌, ◌≤◌, ◌^◌, List, [], ◌∷◌, length, take, drop, arith, refl, ap, inl, inr}
use Rattle.std.proofs.lemmas.Bool.{cases_lt, lt-ltb, le-ltb}
use Rattle.std.proofs.lemmas.List.{length-take, length-drop}
use Rattle.merkle_log.specs.Trees.{tree_hash}
use Rattle.merkle_log.proofs.Tests.{twice, half_above}

-- the row above: neighbours are joined, and the last of an odd number goes up as it is
abbrev pub row_up : {A : Type 0} → (A → A → A) → List A → List A
row_up join [] = []
row_up join (a ∷ []) = a ∷ []
row_up join (a ∷ b ∷ rest) = join a b ∷ row_up join rest

pub length-row_up : {A : Type 0} (join : A → A → A) (xs : List A) → length (row_up join xs) ≡ (length xs + 1) / 2
length-row_up join [] = refl
length-row_up join (a ∷ []) = refl
length-row_up join (a ∷ b ∷ rest) = omega (arith, length-row_up join rest)

take-nil : {A : Type 0} (n : ℕ) → take {A = A} n [] ≡ []
take-nil zero = refl
take-nil (suc n) = refl

drop-nil : {A : Type 0} (n : ℕ) → drop {A = A} n [] ≡ []
drop-nil zero = refl
drop-nil (suc n) = refl

pub take-row_up : {A : Type 0} (join : A → A → A) (c d : ℕ) (xs : List A) → d ≡ c + c → take c (row_up join xs)
    ≡ row_up join (take d xs)
take-row_up join zero zero xs e = refl
take-row_up join (suc c) (suc (suc d)) [] e = refl
take-row_up join (suc c) (suc (suc d)) (a ∷ []) e = ap (λ xs. a ∷ xs) (take-nil c)
take-row_up join (suc c) (suc (suc d)) (a ∷ b ∷ rest) e =
    ap (λ xs. join a b ∷ xs) (take-row_up join c d rest (omega arith))
take-row_up join c d xs e = absurd (omega arith)

pub drop-row_up : {A : Type 0} (join : A → A → A) (c d : ℕ) (xs : List A) → d ≡ c + c → drop c (row_up join xs)
    ≡ row_up join (drop d xs)
drop-row_up join zero zero xs e = refl
drop-row_up join (suc c) (suc (suc d)) [] e = refl
drop-row_up join (suc c) (suc (suc d)) (a ∷ []) e = drop-nil c
drop-row_up join (suc c) (suc (suc d)) (a ∷ b ∷ rest) e = drop-row_up join c d rest (omega arith)
drop-row_up join c d xs e = absurd (omega arith)

-- the first half of a tree, and the rest, one row up
pub take-half : {A : Type 0} (join : A → A → A) (j : ℕ) (xs : List A) → take (2 ^ j) (row_up join xs)
    ≡ row_up join (take (2 ^ suc j) xs)
take-half join j xs = take-row_up join (2 ^ j) (2 ^ suc j) xs (twice j)

pub drop-half : {A : Type 0} (join : A → A → A) (j : ℕ) (xs : List A) → drop (2 ^ j) (row_up join xs)
    ≡ row_up join (drop (2 ^ suc j) xs)
drop-half join j xs = drop-row_up join (2 ^ j) (2 ^ suc j) xs (twice j)

pub length-take_half : {A : Type 0} (j : ℕ) (xs : List A) → length (take (2 ^ j) xs) ≤ 2 ^ j
length-take_half j xs = omega (arith, length-take (2 ^ j) xs)

pub length-drop_half : {A : Type 0} (j : ℕ) (xs : List A) → length xs ≤ 2 ^ suc j → length (drop (2 ^ j) xs) ≤ 2 ^ j
length-drop_half j xs le = omega (arith, length-drop (2 ^ j) xs, twice j)

-- The hash of a tree is that of the row above.
pub tree_hash-up : {A : Type 0} (join : A → A → A) (none : A) (k : ℕ) (xs : List A) → length xs ≤ 2 ^ suc k
    → tree_hash join none (suc k) xs ≡ tree_hash join none k (row_up join xs)
tree_hash-up join none zero [] le = refl
tree_hash-up join none zero (a ∷ []) le = refl
tree_hash-up join none zero (a ∷ b ∷ []) le = refl
tree_hash-up join none (suc j) xs le =
    rw (length-row_up join xs, half_above j (length xs), take-half join j xs, drop-half join j xs)
    (elim (cases_lt (2 ^ suc j) (length xs)) [
      | inl lt ↦ rw (
        lt-ltb (2 ^ suc j) (length xs) lt,
        tree_hash-up join none j (take (2 ^ suc j) xs) (length-take_half (suc j) xs),
        tree_hash-up join none j (drop (2 ^ suc j) xs) (length-drop_half (suc j) xs le),
      ) refl
      | inr ge ↦ rw (le-ltb (2 ^ suc j) (length xs) ge) (tree_hash-up join none j xs ge)
    ])
tree_hash-up join none zero xs le = absurd (omega arith)
