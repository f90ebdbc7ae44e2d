-- Pairs of a list's own tree.
use Rattle.std.proofs.Common.{suc, ◌≡◌, ◌≢◌, ℕ, ◌+◌, ◌-◌, ◌*◌, ◌/◌, ◌%◌, ◌<◌, ◌^◌, ◌⊎◌, Bool, true, false, ◌==◌, if◌then◌else◌, List, length, take, drop, get_or, Result, Ok, arith, refl, ap, sym, ◌∙◌, inl, inr}
use Rattle.std.proofs.lemmas.Bool.{cases_lt}
use Rattle.std.proofs.lemmas.List.{get_or-take, get_or-drop, get_or-map}
use Rattle.merkle_log.specs.Trees.{tree_hash, node}
use Rattle.merkle_log.specs.Binding.{index_beside}
use Rattle.merkle_log.specs.Walk.{joined, in_order}
use Rattle.merkle_log.specs.Collision.{Collide, IsTreePair}
use Rattle.merkle_log.proofs.RowsUp.{row_up, take-half, drop-row_up, length-take_half, tree_hash-up}
use Rattle.merkle_log.proofs.Tests.{mul-twice, odd_test, even_test}
use Rattle.merkle_log.proofs.Above.{there, IsAbove}

-- a digest as a value that is there
pub get_or-there : {D E : Type 0} (none : D) (empty : Result D E) (xs : List D) (i : ℕ) → i < length xs
    → get_or (there xs) i empty ≡ Ok (get_or xs i none)
get_or-there none empty xs i below = get_or-map Ok xs i none empty below

-- a place of the row above
pub node-up : {A : Type 0} (join : A → A → A) (none : A) (level place : ℕ) (xs : List A) → node join none (suc level)
    place xs ≡ node join none level place (row_up join xs)
node-up join none level place xs =
    let part = drop (place * 2 ^ suc level) xs in
    tree_hash-up join none level (take (2 ^ suc level) part) (length-take_half (suc level) part)
    ∙ ap (tree_hash join none level) (sym (take-half join level part) ∙ ap (take (2 ^ level))
    (sym (drop-row_up join (place * 2 ^ level) (place * 2 ^ suc level) xs (mul-twice level place))))

pub node-zero : {D E : Type 0} (hash : D → D → Result D E) (none : D) (empty : Result D E) (xs : List D) (place : ℕ)
    → place < length xs → node (joined hash) empty 0 place (there xs) ≡ Ok (get_or xs place none)
node-zero hash none empty xs place below =
    let one : place * 1 + 0 ≡ place = omega arith in
    get_or-take 1 (drop (place * 1) (there xs)) 0 empty (omega arith) ∙ get_or-drop (place * 1) (there xs) 0 empty
    ∙ ap (λ n. get_or (there xs) n empty) one ∙ get_or-there none empty xs place below

-- two neighbours of a row
abbrev pub pair_of : {A : Type 0} → A → List A → ℕ → A × A
pair_of none xs q = (get_or xs (q + q) none, get_or xs (q + q + 1) none)

module _ {D E : Type 0} {hash : D → D → Result D E} where
  node-above : (empty : Result D E) (xs ys : List D) (level place : ℕ) → IsAbove hash xs ys → node (joined hash) empty
      (suc level) place (there xs) ≡ node (joined hash) empty level place (there ys)
  node-above empty xs ys level place up =
      node-up (joined hash) empty level place (there xs) ∙ ap (node (joined hash) empty level place) up.is

  -- a pair of the row above
  pub tree_pair-up : (empty : Result D E) (xs ys : List D) (level place : ℕ) (pair : D × D) → IsAbove hash xs ys
      → length ys ≡ (length xs + 1) / 2 → IsTreePair hash empty ys level place pair → IsTreePair hash empty xs
      (suc level) place pair
  tree_pair-up empty xs ys level place pair up size tree = let below = tree.inside in record {
    inside = omega (arith, mul-twice level (place + place + 1));
    left = node-above empty xs ys level (place + place) up ∙ tree.left;
    right = node-above empty xs ys level (place + place + 1) up ∙ tree.right;
  }

  pub tree_pair-down : (empty : Result D E) (xs ys : List D) (level place : ℕ) (pair : D × D) → IsAbove hash xs ys
      → length ys ≡ (length xs + 1) / 2 → IsTreePair hash empty xs (suc level) place pair → IsTreePair hash empty ys
      level place pair
  tree_pair-down empty xs ys level place pair up size tree = let below = tree.inside in record {
    inside = omega (arith, mul-twice level (place + place + 1));
    left = sym (node-above empty xs ys level (place + place) up) ∙ tree.left;
    right = sym (node-above empty xs ys level (place + place + 1) up) ∙ tree.right;
  }

  pub tree_pair-zero : (none : D) (empty : Result D E) (xs : List D) (q : ℕ) → q + q + 1 < length xs
      → IsTreePair hash empty xs 0 q (pair_of none xs q)
  tree_pair-zero none empty xs q below = record {
    inside = omega arith;
    left = node-zero hash none empty xs (q + q) (omega arith);
    right = node-zero hash none empty xs (q + q + 1) below;
  }

-- ---- two pairs with one hash

pub pair_same : {A B : Type 0} (p q : A × B) → p.0 ≡ q.0 → p.1 ≡ q.1 → p ≡ q
pair_same {A} {B} p q e f = parts p.0 p.1 q.0 q.1 e f
  where
    parts : (a : A) (b : B) (c : A) (d : B) → a ≡ c → b ≡ d → Path (A × B) (a, b) (c, d)
    parts a b c d e f = rw (e, f) refl

pub same_pairs : {D E : Type 0} (same : (x y : D) → (x ≡ y) ⊎ (x ≢ y)) (hash : D → D → Result D E) (p q : D × D) (x : D)
    → hash p.0 p.1 ≡ Ok x → hash q.0 q.1 ≡ Ok x → (p ≡ q) ⊎ Collide hash p q
same_pairs same hash p q x e f = elim (same p.0 q.0) [
  | inl one ↦ elim (same p.1 q.1) [
    | inl two ↦ inl (pair_same p q one two)
    | inr two ↦ inr (record { differ = λ s. two (ap (λ z. z.1) s); common = x; pair_hash = e; other_hash = f })
  ]
  | inr one ↦ inr (record { differ = λ s. one (ap (λ z. z.0) s); common = x; pair_hash = e; other_hash = f })
]

-- ---- an index and the one beside it

in_order-injective : {D : Type 0} (i : ℕ) (a b c d : D) → in_order i a b ≡ in_order i c d → (a ≡ c) × (b ≡ d)
in_order-injective {D} i a b c d = by_test (i % 2 == 1)
  where
    by_test : (odd : Bool) → Path (D × D) (if odd then (b, a) else (a, b)) (if odd then (d, c) else (c, d))
        → (a ≡ c) × (b ≡ d)
    by_test true e = (ap (λ p. p.1) e, ap (λ p. p.0) e)
    by_test false e = (ap (λ p. p.0) e, ap (λ p. p.1) e)

-- in order they are a pair of the row
pub pair_order : {D : Type 0} (none : D) (xs : List D) (i : ℕ)
    → in_order i (get_or xs i none) (get_or xs (index_beside i) none) ≡ pair_of none xs (i / 2)
pair_order none xs i = elim (cases_lt (i % 2) 1) [
  | inl even ↦
      let left : i ≡ i / 2 + i / 2 = omega arith in
      let right : i + 1 ≡ i / 2 + i / 2 + 1 = omega arith in
      rw (even_test i (omega arith)) (pair_same _ _ (ap (λ n. get_or xs n none) left) (ap
      (λ n. get_or xs n none) right))
  | inr odd ↦
      let left : i - 1 ≡ i / 2 + i / 2 = omega arith in
      let right : i ≡ i / 2 + i / 2 + 1 = omega arith in
      rw (odd_test i (omega arith)) (pair_same _ _ (ap (λ n. get_or xs n none) left) (ap (λ n. get_or xs n none) right))
]

-- A digest and a sibling in order are that pair where they are the row's own.
pub own_pair : {D : Type 0} (none : D) (xs : List D) (i : ℕ) (own sibling : D) → own ≡ get_or xs i none
    → sibling ≡ get_or xs (index_beside i) none → in_order i own sibling ≡ pair_of none xs (i / 2)
own_pair none xs i own sibling e f = rw (e, f) (pair_order none xs i)

pub own_of : {D : Type 0} (none : D) (xs : List D) (i : ℕ) (own sibling : D)
    → in_order i own sibling ≡ pair_of none xs (i / 2) → (own ≡ get_or xs i none)
    × (sibling ≡ get_or xs (index_beside i) none)
own_of none xs i own sibling same = in_order-injective i own sibling _ _ (same ∙ sym (pair_order none xs i))
