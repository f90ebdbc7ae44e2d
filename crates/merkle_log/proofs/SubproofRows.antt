-- Consistency proofs row by row.
use Rattle.std.proofs.Common.{zero, suc, ◌≡◌, ℕ, ◌+◌, ◌-◌, ◌/◌, ◌%◌, ◌<◌, ◌≤◌, ◌^◌, ◌⊎◌, Bool, true, false, ◌==◌, ◌&&◌, if◌then◌else◌, List, [], ◌∷◌, ◌++◌, length, take, drop, get_or, arith, refl, ◌∙◌, inl, inr, pow_pos}
use Rattle.std.proofs.lemmas.Bool.{cases_lt, lt-ltb, le-ltb, eq-eqb, ne_eqb}
use Rattle.std.proofs.lemmas.List.{length-drop, length-take-le, get_or-take, get_or-drop, append_assoc}
use Rattle.merkle_log.specs.Trees.{tree_hash, path, subproof}
use Rattle.merkle_log.proofs.RowsUp.{row_up, length-row_up, take-half, drop-half, tree_hash-up}
use Rattle.merkle_log.proofs.Tests.{twice, half_above, half_beyond, half_behind, half_same}

-- An even number of values is half that number in the row above.
pub subproof-up : {A : Type 0} (join : A → A → A) (none : A) (k m : ℕ) (xs : List A) (known : Bool) → m % 2 ≡ 0 → 0 < m
    → m ≤ length xs → length xs ≤ 2 ^ suc k
    → subproof join none (suc k) m xs known ≡ subproof join none k (m / 2) (row_up join xs) known
subproof-up join none zero m (a ∷ b ∷ []) known even some below le = let e : m ≡ 2 = omega arith in rw (e) refl
subproof-up join none (suc j) m xs known even some below le =
    let two = twice j in
    let four = twice (suc j) in
    elim (cases_lt m (length xs)) [
      | inr all ↦ rw (
        tree_hash-up join none (suc j) xs le,
        length-row_up join xs,
        half_same m (length xs) even below,
        eq-eqb m (length xs) (omega arith),
      ) refl
      | inl more ↦
          rw (length-row_up join xs, half_same m (length xs) even below, half_above j (length xs), half_beyond j m even)
          (rw (ne_eqb m (length xs) (λ e. omega arith), take-half join j xs, drop-half join j xs)
          (elim (cases_lt (2 ^ suc j) (length xs)) [
            | inl lt ↦
                let lf = length-take-le (2 ^ suc j) xs (omega arith) in
                let lb = length-drop (2 ^ suc j) xs in
                elim (cases_lt (2 ^ suc j) m) [
                  | inl right ↦ rw (
                    lt-ltb (2 ^ suc j) (length xs) lt,
                    lt-ltb (2 ^ suc j) m right,
                    subproof-up join none j (m - 2 ^ suc j) (drop (2 ^ suc j) xs) false (omega arith) (omega arith)
                        (omega arith) (omega arith),
                    tree_hash-up join none j (take (2 ^ suc j) xs) (omega arith),
                    half_behind j m,
                  ) refl
                  | inr left ↦ rw (
                    lt-ltb (2 ^ suc j) (length xs) lt,
                    le-ltb (2 ^ suc j) m left,
                    subproof-up join none j m (take (2 ^ suc j) xs) known even some (omega arith) (omega arith),
                    tree_hash-up join none j (drop (2 ^ suc j) xs) (omega arith),
                  ) refl
                ]
            | inr ge ↦
                rw (le-ltb (2 ^ suc j) (length xs) ge)
                (rw (ne_eqb m (length xs) (λ e. omega arith)) at
                (subproof-up join none j m xs known even some below ge))
          ]))
    ]
subproof-up join none zero m xs known even some below le = absurd (omega arith)

-- the last of the first m values, an odd number, unless it is known as their hash
abbrev pub seed : {A : Type 0} → A → Bool → ℕ → List A → List A
seed none known m xs = if known && m == 1 then [] else (get_or xs (m - 1) none ∷ [])

pub seed-more : {A : Type 0} (none : A) (known : Bool) (m : ℕ) (xs : List A) → 1 < m → seed none known m xs
    ≡ get_or xs (m - 1) none ∷ []
seed-more none true m xs more = rw (ne_eqb m 1 (λ e. omega arith)) refl
seed-more none false m xs more = refl

seed-take : {A : Type 0} (none : A) (known : Bool) (m c : ℕ) (xs : List A) → 0 < m → m ≤ c → seed none known m
    (take c xs) ≡ seed none known m xs
seed-take none known m c xs some le = rw (get_or-take c xs (m - 1) none (omega arith)) refl

odd_power : (j : ℕ) → 2 ^ j % 2 ≡ 1 → 2 ^ j ≡ 1
odd_power zero odd = refl
odd_power (suc j) odd = let t = twice j in absurd (omega arith)

pub tree_hash-one : {A : Type 0} (join : A → A → A) (none : A) (k : ℕ) (a : A) → tree_hash join none k (a ∷ []) ≡ a
tree_hash-one join none zero a = refl
tree_hash-one join none (suc j) a = rw (le-ltb (2 ^ j) 1 (pow_pos j)) (tree_hash-one join none j a)

pub path-one : {A : Type 0} (join : A → A → A) (none : A) (k : ℕ) (a : A) → path join none k 0 (a ∷ []) ≡ []
path-one join none zero a = refl
path-one join none (suc j) a = rw (le-ltb (2 ^ j) 1 (pow_pos j)) (path-one join none j a)

seed-one : {A : Type 0} (join : A → A → A) (none : A) (k : ℕ) (a : A) (known : Bool) → subproof join none k 1 (a ∷ [])
    known ≡ seed none known 1 (a ∷ []) ++ path join none k 0 (a ∷ [])
seed-one join none zero a true = refl
seed-one join none zero a false = refl
seed-one join none (suc j) a true = rw (path-one join none (suc j) a) refl
seed-one join none (suc j) a false = rw (path-one join none (suc j) a, tree_hash-one join none (suc j) a) refl

-- What an odd number needs one level down.
abbrev OddBelow : {A : Type 0} → (A → A → A) → A → ℕ → Type 0
OddBelow {A} join none j = (n : ℕ) (ys : List A) (b : Bool) → n % 2 ≡ 1 → n ≤ length ys → (n < length ys) ⊎ (n ≡ 1)
    → length ys ≤ 2 ^ j
    → subproof join none j n ys b ≡ seed none b n ys ++ path join none j (n - 1) ys

odd-more : {A : Type 0} (join : A → A → A) (none : A) (j m : ℕ) (xs : List A) (known : Bool) → m % 2 ≡ 1 → m < length xs
    → length xs ≤ 2 ^ suc j → OddBelow join none j
    → subproof join none (suc j) m xs known ≡ seed none known m xs ++ path join none (suc j) (m - 1) xs
odd-more join none j m xs known odd below le ih =
    let two = twice j in
    let some = pow_pos j in
    let t : (m == length xs) ≡ false = ne_eqb m (length xs) (λ e. omega arith) in
    elim (cases_lt (2 ^ j) (length xs)) [
      | inl lt ↦
          let lf = length-take-le (2 ^ j) xs (omega arith) in
          let lb = length-drop (2 ^ j) xs in
          elim (cases_lt (2 ^ j) m) [
            | inl right ↦
                let even = even_power j (big_power j some (λ one. omega arith)) in
                let turn : m - 2 ^ j - 1 ≡ m - 1 - 2 ^ j = omega arith in
                let at : 2 ^ j + (m - 1 - 2 ^ j) ≡ m - 1 = omega arith in
                rw (
                  t,
                  lt-ltb (2 ^ j) (length xs) lt,
                  lt-ltb (2 ^ j) m right,
                  le-ltb (m - 1) (2 ^ j) (omega arith),
                  seed-more none known m xs (omega arith),
                  ih (m - 2 ^ j) (drop (2 ^ j) xs) false (omega arith) (omega arith) (inl (omega arith)) (omega arith),
                  turn,
                  get_or-drop (2 ^ j) xs (m - 1 - 2 ^ j) none,
                  at,
                ) refl
            | inr left ↦
                let strict : (m < length (take (2 ^ j) xs)) ⊎ (m ≡ 1) = elim (cases_lt m (2 ^ j)) [
                  | inl less ↦ inl (omega arith)
                  | inr same ↦ let e : m ≡ 2 ^ j = omega arith in inr (e ∙ odd_power j (omega arith))
                ] in
                rw (
                  t,
                  lt-ltb (2 ^ j) (length xs) lt,
                  le-ltb (2 ^ j) m left,
                  lt-ltb (m - 1) (2 ^ j) (omega arith),
                  ih m (take (2 ^ j) xs) known odd (omega arith) strict (omega arith),
                  seed-take none known m (2 ^ j) xs (omega arith) left,
                ) (append_assoc (seed none known m xs) _ _)
          ]
      | inr ge ↦ rw (t, le-ltb (2 ^ j) (length xs) ge) (ih m xs known odd (omega arith) (inl below) ge)
    ]
  where
    even_power : (j : ℕ) → 1 < 2 ^ j → 2 ^ j % 2 ≡ 0
    even_power zero big = absurd (omega arith)
    even_power (suc j) big = omega (arith, twice j)

    big_power : (j : ℕ) → 0 < 2 ^ j → (2 ^ j ≡ 1 → ⊥) → 1 < 2 ^ j
    big_power j some not_one = omega arith

-- For an odd number of values it is their last one, and its path.
pub subproof-odd : {A : Type 0} (join : A → A → A) (none : A) (k : ℕ) → OddBelow join none k
subproof-odd join none k m (a ∷ []) known odd below strict le = let e : m ≡ 1 =
    omega arith in rw (e) (seed-one join none k a known)
subproof-odd join none (suc j) m (a ∷ b ∷ rest) known odd below strict le =
    odd-more join none j m (a ∷ b ∷ rest) known odd (omega arith) le (subproof-odd join none j)
subproof-odd join none k m xs known odd below strict le = absurd (omega arith)
