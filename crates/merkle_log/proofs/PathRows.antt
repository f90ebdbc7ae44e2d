-- Paths row by row.
use Rattle.std.proofs.Common.{zero, suc, ◌≡◌, ℕ, ◌+◌, ◌-◌, ◌/◌, ◌%◌, ◌<◌, ◌≤◌, ◌^◌, nat_lt, ◌==◌, if◌then◌else◌, List, [], ◌∷◌, ◌++◌, length, take, drop, get_or, arith, refl, ap, ◌∙◌, inl, inr}
use Rattle.std.proofs.lemmas.Bool.{cases_lt, lt-ltb, le-ltb}
use Rattle.std.proofs.lemmas.List.{length-drop, length-take-le, get_or-take, get_or-drop, append_assoc}
use Rattle.merkle_log.specs.Trees.{path}
use Rattle.merkle_log.proofs.RowsUp.{row_up, length-row_up, take-half, drop-half, length-take_half, length-drop_half, tree_hash-up}
use Rattle.merkle_log.proofs.Tests.{twice, odd_test, even_test, half_above, half_below, half_behind}

-- what stands beside an index of a row
abbrev pub beside : {A : Type 0} → A → ℕ → List A → List A
beside none i xs =
    if i % 2 == 1 then (get_or xs (i - 1) none ∷ [])
    else (if nat_lt (i + 1) (length xs) then (get_or xs (i + 1) none ∷ []) else [])

pub beside-odd : {A : Type 0} (none : A) (i : ℕ) (xs : List A) → i % 2 ≡ 1 → beside none i xs
    ≡ get_or xs (i - 1) none ∷ []
beside-odd none i xs odd = rw (odd_test i odd) refl

pub beside-even : {A : Type 0} (none : A) (i : ℕ) (xs : List A) → i % 2 ≡ 0 → i + 1 < length xs → beside none i xs
    ≡ get_or xs (i + 1) none ∷ []
beside-even none i xs even more = rw (even_test i even, lt-ltb (i + 1) (length xs) more) refl

pub beside-last : {A : Type 0} (none : A) (i : ℕ) (xs : List A) → i % 2 ≡ 0 → length xs ≤ i + 1 → beside none i xs ≡ []
beside-last none i xs even last = rw (even_test i even, le-ltb (i + 1) (length xs) last) refl

-- odd, even with a value behind it, or even and last
pub data Side (i n : ℕ) : Type 0 where
  Right : i % 2 ≡ 1 → Side i n
  Left : i % 2 ≡ 0 → i + 1 < n → Side i n
  Alone : i % 2 ≡ 0 → n ≤ i + 1 → Side i n

pub side : (i n : ℕ) → Side i n
side i n = elim (cases_lt (i % 2) 1) [
  | inr odd ↦ Right (omega arith)
  | inl even ↦ elim (cases_lt (i + 1) n) [
    | inl more ↦ Left (omega arith) more
    | inr last ↦ Alone (omega arith) last
  ]
]

-- within the first c, an even number of them
beside-take : {A : Type 0} (none : A) (i c d : ℕ) (xs : List A) → d ≡ c + c → i < d → d < length xs → beside none i
    (take d xs) ≡ beside none i xs
beside-take none i c d xs two below more =
    let l : length (take d xs) ≡ d = length-take-le d xs (omega arith) in
    elim (side i d) [
      | Right odd ↦ rw (beside-odd none i (take d xs) odd, beside-odd none i xs odd)
          (ap (λ x. x ∷ []) (get_or-take d xs (i - 1) none (omega arith)))
      | Left even in_front ↦ rw (
        beside-even none i (take d xs) even (omega arith),
        beside-even none i xs even
            (omega arith),
      ) (ap (λ x. x ∷ []) (get_or-take d xs (i + 1) none in_front))
      | Alone even last ↦ absurd (omega arith)
    ]

-- behind the first c, an even number of them
beside-drop : {A : Type 0} (none : A) (i c d : ℕ) (xs : List A) → d ≡ c + c → d ≤ i → i < length xs
    → beside none (i - d) (drop d xs) ≡ beside none i xs
beside-drop none i c d xs two below more =
    let l : length (drop d xs) ≡ length xs - d = length-drop d xs in
    elim (side i (length xs)) [
      | Right odd ↦
          let e : d + (i - d - 1) ≡ i - 1 = omega arith in
          rw (beside-odd none (i - d) (drop d xs) (omega arith), beside-odd none i xs odd)
          (ap (λ x. x ∷ []) (get_or-drop d xs (i - d - 1) none ∙ ap (λ n. get_or xs n none) e))
      | Left even in_front ↦
          let e : d + (i - d + 1) ≡ i + 1 = omega arith in
          rw (beside-even none (i - d) (drop d xs) (omega arith) (omega arith), beside-even none i xs even in_front)
          (ap (λ x. x ∷ []) (get_or-drop d xs (i - d + 1) none ∙ ap (λ n. get_or xs n none) e))
      | Alone even last ↦ rw (
        beside-last none (i - d) (drop d xs) (omega arith) (omega arith),
        beside-last none i xs
            even last,
      ) refl
    ]

-- A path is what stands beside the index, and the path in the row above.
pub path-up : {A : Type 0} (join : A → A → A) (none : A) (k i : ℕ) (xs : List A) → i < length xs → length xs ≤ 2 ^ suc k
    → path join none (suc k) i xs ≡ beside none i xs ++ path join none k (i / 2) (row_up join xs)
path-up join none zero zero (a ∷ []) below le = refl
path-up join none zero zero (a ∷ b ∷ []) below le = refl
path-up join none zero (suc zero) (a ∷ b ∷ []) below le = refl
path-up join none (suc j) i xs below le =
    let two = twice (suc j) in
    rw (length-row_up join xs, half_above j (length xs), half_below j i, take-half join j xs, drop-half join j xs)
    (elim (cases_lt (2 ^ suc j) (length xs)) [
      | inl lt ↦ elim (cases_lt i (2 ^ suc j)) [
        | inl left ↦ rw (
          lt-ltb (2 ^ suc j) (length xs) lt,
          lt-ltb i (2 ^ suc j) left,
          path-up join none j i (take (2 ^ suc j) xs) (omega (arith, length-take-le (2 ^ suc j) xs))
              (length-take_half (suc j) xs),
          tree_hash-up join none j (drop (2 ^ suc j) xs) (length-drop_half (suc j) xs le),
          beside-take none i (2 ^ j) (2 ^ suc j) xs (twice j) left lt,
        ) (append_assoc (beside none i xs) _ _)
        | inr right ↦ rw (
          lt-ltb (2 ^ suc j) (length xs) lt,
          le-ltb i (2 ^ suc j) right,
          path-up join none j (i - 2 ^ suc j) (drop (2 ^ suc j) xs) (omega (arith, length-drop (2 ^ suc j) xs))
              (length-drop_half (suc j) xs le),
          tree_hash-up join none j (take (2 ^ suc j) xs) (length-take_half (suc j) xs),
          half_behind j i,
          beside-drop none i (2 ^ j) (2 ^ suc j) xs (twice j) right below,
        ) (append_assoc (beside none i xs) _ _)
      ]
      | inr ge ↦ rw (le-ltb (2 ^ suc j) (length xs) ge) (path-up join none j i xs below ge)
    ])
path-up join none zero i xs below le = absurd (omega arith)
