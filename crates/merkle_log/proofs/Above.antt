-- A row of digests and the one above it.
use Rattle.std.proofs.Common.{zero, suc, ◌≡◌, ℕ, ◌+◌, ◌-◌, ◌/◌, ◌%◌, ◌<◌, ◌≤◌, ◌^◌, ◌==◌, if◌then◌else◌, List, [], ◌∷◌, ◌++◌, length, map, take, drop, get_or, Result, Ok, Err, arith, refl, ap, sym, ◌∙◌, inl, inr}
use Rattle.std.proofs.lemmas.Bool.{cases_lt, lt-ltb, le-ltb}
use Rattle.std.proofs.lemmas.List.{length-map, length-take-le, map-append, append_assoc, take-append-drop, take-map, take_more}
use Rattle.merkle_log.specs.Trees.{tree_hash}
use Rattle.merkle_log.specs.Walk.{joined}
use Rattle.merkle_log.proofs.RowsUp.{row_up, length-row_up, take-row_up, length-take_half, length-drop_half, tree_hash-up}
use Rattle.merkle_log.proofs.Tests.{twice, odd_test, even_test}

-- digests as values that are there
abbrev pub there : {D E : Type 0} → List D → List (Result D E)
there xs = map Ok xs

-- Two values that have a joint hash are there.
pub joined-ok : {D E : Type 0} (hash : D → D → Result D E) (left right : Result D E) (root : D) → joined hash left right
    ≡ Ok root → (a : D) × (b : D) × (left ≡ Ok a) × (right ≡ Ok b) × (hash a b ≡ Ok root)
joined-ok hash (Ok a) (Ok b) root e = (a, b, refl, refl, e)
joined-ok hash (Ok a) (Err f) root e = absurd cc
joined-ok hash (Err f) right root e = absurd cc

glued : {D E : Type 0} (n : ℕ) (xs : List (Result D E)) (front back : List D) → take n xs ≡ there front → drop n xs
    ≡ there back → xs ≡ there (front ++ back)
glued n xs front back f b = sym (take-append-drop n xs) ∙ rw (f, b, map-append) refl

-- Where a tree has a root, all its values are there.
pub all_there : {D E : Type 0} (hash : D → D → Result D E) (none : Result D E) (k : ℕ) (xs : List (Result D E))
    (root : D) → length xs ≤ 2 ^ k → tree_hash (joined hash) none k xs ≡ Ok root → (ds : List D) × (xs ≡ there ds)
all_there hash none zero [] root le e = ([], refl)
all_there hash none zero (x ∷ []) root le e = (root ∷ [], ap (λ x. x ∷ []) e)
all_there hash none (suc j) xs root le e = elim (cases_lt (2 ^ j) (length xs)) [
  | inl lt ↦
      let both = joined-ok hash _ _ root (rw (lt-ltb (2 ^ j) (length xs) lt) at e) in
      let front = all_there hash none j (take (2 ^ j) xs) both.0 (length-take_half j xs) both.2 in
      let back = all_there hash none j (drop (2 ^ j) xs) both.1 (length-drop_half j xs le) both.3 in
      (front.0 ++ back.0, glued (2 ^ j) xs front.0 back.0 front.1 back.1)
  | inr ge ↦ all_there hash none j xs root ge (rw (le-ltb (2 ^ j) (length xs) ge) at e)
]
all_there hash none zero (x ∷ y ∷ xs) root le e = absurd (omega arith)

-- ys is the row above xs.
pub record IsAbove {D E : Type 0} (hash : D → D → Result D E) (xs ys : List D) : Type 0 where
  pub is : row_up (joined hash) (there {E = E} xs) ≡ there ys

-- A tree with a root has a row above, with that root.
pub record Higher {D E : Type 0} (hash : D → D → Result D E) (none : Result D E) (k : ℕ) (xs : List D) (root : D) :
    Type 0 where
  pub row : List D
  pub above : IsAbove hash xs row
  pub size : length row ≡ (length xs + 1) / 2
  pub hashed : tree_hash (joined hash) none k (there row) ≡ Ok root

pub higher : {D E : Type 0} (hash : D → D → Result D E) (none : Result D E) (k : ℕ) (xs : List D) (root : D)
    → length xs ≤ 2 ^ suc k → tree_hash (joined hash) none (suc k) (there xs) ≡ Ok root → Higher hash none k xs root
higher {D} {E} hash none k xs root le e =
    let long = length-map {B = Result D E} xs Ok in
    let size = length-row_up (joined hash) (there {E = E} xs) in
    let two = twice k in
    let hashed = sym (tree_hash-up (joined hash) none k (there xs) (omega arith)) ∙ e in
    let ds = all_there hash none k (row_up (joined hash) (there {E = E} xs)) root (omega arith) hashed in
    record {
      row = ds.0;
      above = record { is = ds.1 };
      size = omega (arith, length-map {B = Result D E} ds.0 Ok, ap length ds.1);
      hashed = rw (← ds.1) hashed;
    }

-- The same of a row with last index s.
pub record RowAbove {D E : Type 0} (hash : D → D → Result D E) (none : Result D E) (k s : ℕ) (xs : List D) (root : D) :
    Type 0 where
  pub row : List D
  pub above : IsAbove hash xs row
  pub size : length row ≡ (length xs + 1) / 2
  pub long : length row ≡ s / 2 + 1
  pub low : s / 2 < 2 ^ k
  pub hashed : tree_hash (joined hash) none k (there row) ≡ Ok root

pub row_above : {D E : Type 0} (hash : D → D → Result D E) (none : Result D E) (k s : ℕ) (xs : List D) (root : D)
    → length xs ≡ s + 1 → s < 2 ^ suc k → tree_hash (joined hash) none (suc k) (there xs) ≡ Ok root
    → RowAbove hash none k s xs root
row_above hash none k s xs root long low tree =
    let two = twice k in
    let up = higher hash none k xs root (omega arith) tree in
    record {
      row = up.row;
      above = up.above;
      size = up.size;
      long = omega (arith, up.size);
      low = omega arith;
      hashed = up.hashed;
    }

-- ---- what stands above what

above-at : {D E : Type 0} (hash : D → D → Result D E) (none : D) (xs ys : List D) → IsAbove hash xs ys → (q i j : ℕ)
    → i ≡ q + q → j ≡ i + 1 → j < length xs → hash (get_or xs i none) (get_or xs j none) ≡ Ok (get_or ys q none)
above-at hash none (a ∷ b ∷ xs) [] up q i j two next below = let e = up.is in absurd cc
above-at hash none (a ∷ b ∷ xs) (y ∷ ys) up zero zero (suc zero) two next below = let e = up.is in cc
above-at hash none (a ∷ b ∷ xs) (y ∷ ys) up (suc q) (suc (suc i)) (suc (suc j)) two next below =
    let e = up.is in above-at hash none xs ys (record { is = cc }) q i j (omega arith) (omega arith) (omega arith)
above-at hash none xs ys up q i j two next below = absurd (omega arith)

-- a pair
pub above-pair : {D E : Type 0} (hash : D → D → Result D E) (none : D) (xs ys : List D) → IsAbove hash xs ys
    → (q : ℕ) → q + q + 1 < length xs → hash (get_or xs (q + q) none) (get_or xs (q + q + 1) none)
    ≡ Ok (get_or ys q none)
above-pair hash none xs ys up q below = above-at hash none xs ys up q (q + q) (q + q + 1) refl refl below

-- the last of an odd number
pub above-last : {D E : Type 0} (hash : D → D → Result D E) (none : D) (xs ys : List D) → IsAbove hash xs ys → (q i : ℕ)
    → i ≡ q + q → length xs ≡ i + 1 → get_or ys q none ≡ get_or xs i none
above-last hash none (a ∷ []) [] up q i two last = let e = up.is in absurd cc
above-last hash none (a ∷ []) (y ∷ ys) up zero zero two last = let e = up.is in cc
above-last hash none (a ∷ b ∷ xs) [] up q i two last = let e = up.is in absurd cc
above-last hash none (a ∷ b ∷ xs) (y ∷ ys) up (suc q) (suc (suc i)) two last = let e =
    up.is in above-last hash none xs ys (record { is = cc }) q i (omega arith) (omega arith)
above-last hash none xs ys up q i two last = absurd (omega arith)

-- ---- the first values of a row

-- an even number of values in front
pub row_up-append : {A : Type 0} (join : A → A → A) (c : ℕ) (xs ys : List A) → length xs ≡ c + c
    → row_up join (xs ++ ys) ≡ row_up join xs ++ row_up join ys
row_up-append join c [] ys two = refl
row_up-append join (suc c) (a ∷ b ∷ xs) ys two = ap (λ l. join a b ∷ l) (row_up-append join c xs ys (omega arith))
row_up-append join c xs ys two = absurd (omega arith)

pub above-take : {D E : Type 0} (hash : D → D → Result D E) (c d : ℕ) (xs ys : List D) → IsAbove hash xs ys → d ≡ c + c
    → row_up (joined hash) (there {E = E} (take d xs)) ≡ there (take c ys)
above-take hash c d xs ys up two =
    ap (row_up (joined hash)) (sym (take-map Ok d xs)) ∙ sym (take-row_up (joined hash) c d (there xs) two)
    ∙ ap (take c) up.is ∙ take-map Ok c ys

-- The row above the first values of a row and one more, where the row above an even number of them is known.
pub row_up-cut : {D E : Type 0} (hash : D → D → Result D E) (none : D) (s : ℕ) (row next : List D) (x : Result D E)
    → ((c d : ℕ) → d ≡ c + c → d ≤ length row → row_up (joined hash) (there {E = E} (take d row)) ≡ there (take c next))
    → s ≤ length row → row_up (joined hash) (there (take s row) ++ (x ∷ [])) ≡ there (take (s / 2) next)
    ++ ((if s % 2 == 1 then (joined hash (Ok (get_or row (s - 1) none)) x) else x) ∷ [])
row_up-cut {D} {E} hash none s row next x front le = elim (cases_lt (s % 2) 1) [
  | inl even ↦ rw (even_test s (omega arith)) (row_up-append (joined hash) (s / 2) (there (take s row)) (x ∷ [])
      (omega (arith, length-map {B = Result D E} (take s row) Ok, length-take-le s row le))
      ∙ ap (λ l. l ++ (x ∷ [])) (front (s / 2) s (omega arith) le))
  | inr odd ↦
      let one : s ≡ s - 1 + 1 = omega arith in
      let left = get_or row (s - 1) none in
      rw (odd_test s (omega arith))
      (ap (λ n. row_up (joined hash) (there (take n row) ++ (x ∷ []))) one
      ∙ ap (λ l. row_up (joined hash) (there l ++ (x ∷ []))) (take_more row (s - 1) none (omega arith))
      ∙ ap (λ l. row_up (joined hash) (l ++ (x ∷ []))) (map-append Ok (take (s - 1) row) (left ∷ []))
      ∙ ap (row_up (joined hash)) (append_assoc (there (take (s - 1) row)) (Ok left ∷ []) (x ∷ []))
      ∙ row_up-append (joined hash) (s / 2) (there (take (s - 1) row)) (Ok left ∷ x ∷ [])
      (omega (arith, length-map {B = Result D E} (take (s - 1) row) Ok, length-take-le (s - 1) row (omega arith)))
      ∙ ap (λ l. l ++ (joined hash (Ok left) x ∷ [])) (front (s / 2) (s - 1) (omega arith) (omega arith)))
]
