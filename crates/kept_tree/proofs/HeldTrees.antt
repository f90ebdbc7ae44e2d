-- What memory that holds a tree has: the root and the paths of the repeated halving of its leaf digests.
use Rattle.std.proofs.Common.{◌≡◌, ℕ, zero, suc, ◌+◌, ◌-◌, ◌*◌, ◌/◌, ◌%◌, ◌<◌, ◌≤◌, ◌^◌, Bool, true, false, List, [], length, take, get_or, if◌then◌else◌, Ok, refl, sym, ap, ◌∙◌, arith, pow_pos}
use Rattle.std.proofs.lemmas.Bool.{eqb-true}
use Rattle.std.proofs.lemmas.List.{get_or-drop, get_or-take, length-take-le}
use Rattle.std.proofs.lemmas.Nat.{pow-add}
use Rattle.std.proofs.Math.Nat.{mul-add-div_right, pow-le-pow_right, pow-succ'}
use Rattle.ark_paths.specs.Index.{bit_at, log2, neighbour}
use Rattle.ark_paths.specs.Pair.{Digest}
use Rattle.ark_paths.specs.Root.{Root, outcome_of, place, root, upper_levels}
use Rattle.ark_paths.specs.Rows.{AreLevels, IsTree, beside_in, part}
use Rattle.ark_paths.specs.Tree.{own_path}
use Rattle.ark_paths.proofs.Logs.{log2-pow, upper_levels-is}
use Rattle.ark_paths.proofs.OwnPaths.{own_path-rows}
use Rattle.ark_paths.proofs.Parts.{get_or-part, part-left, part-right, part-whole}
use Rattle.ark_paths.proofs.PlaceLemmas.{neighbour-inside, place-inside}
use Rattle.ark_merkle.specs.LevelOrder.{rows_in_order}
use Rattle.ark_merkle.proofs.LevelOrder.{digest-in_order, length-row, length-rows_in_order}
use Rattle.kept_tree.specs.KeptTree.{KeepsTree, IsHashed, PlainNode, alike, kept_above, kept_beside, kept_way, leaf_count}

neighbour_by : (b : Bool) (e q : ℕ) → bit_at q 0 ≡ b → bit_at (2 * e + q) 0 ≡ b
    → (if b then 2 * e + q - 1 else 2 * e + q + 1) ≡ 2 * e + (if b then q - 1 else q + 1)
neighbour_by true e q is at = let odd : (q / 2 ^ 0) % 2 ≡ 1 = eqb-true ((q / 2 ^ 0) % 2) 1 is in omega arith
neighbour_by false e q is at = omega arith

-- behind an even count of places the neighbours are the same
pub neighbour-behind : (e q : ℕ) → neighbour (2 * e + q) ≡ 2 * e + neighbour q
neighbour-behind e q =
    let bits : (2 * e + q) / 2 ^ 0 % 2 ≡ q / 2 ^ 0 % 2 = omega arith in
    let same : bit_at (2 * e + q) 0 ≡ bit_at q 0 = rw bits refl in
    rw same (neighbour_by (bit_at q 0) e q refl same)

module _ (node : PlainNode) (memory leaves : List Digest) (holds : KeepsTree node memory leaves) where
  abbrev m : ℕ
  m = holds.size.0

  -- the digests above the leaves
  abbrev inner : ℕ
  inner = length memory / 2

  abbrev above : List Digest
  above = take inner memory

  pub power : length leaves ≡ 2 ^ suc m
  power = holds.size.1

  inner-is : inner + 1 ≡ 2 ^ suc m
  inner-is = omega (arith, holds.count, power)

  leaf-read : (j : ℕ) → get_or leaves j [] ≡ get_or memory (inner + j) []
  leaf-read j = ap (λ (ds : List Digest). get_or ds j []) (sym holds.last) ∙ get_or-drop inner memory j []

  -- the places of a level are hashed from those of the next
  level-hashed : (j q : ℕ) → j ≤ m → q < 2 ^ j → get_or memory (2 ^ j - 1 + q) []
      ≡ node (get_or memory (2 ^ suc j - 1 + 2 * q) []) (get_or memory (2 ^ suc j - 1 + (2 * q + 1)) [])
  level-hashed j q le below =
      let i = 2 ^ j - 1 + q in
      let some = pow_pos j in
      let twice = pow-succ' 2 j in
      let two : 0 < 2 = omega arith in
      let up : 2 ^ suc j ≤ 2 ^ suc m = pow-le-pow_right two (omega arith) in
      let left : 2 * i + 1 ≡ 2 ^ suc j - 1 + 2 * q = omega arith in
      let right : 2 * i + 2 ≡ 2 ^ suc j - 1 + (2 * q + 1) = omega arith in
      let hashed : IsHashed node memory i = holds.hashed i (omega (arith, inner-is, up, twice)) in
      hashed ∙ rw (left, right) refl

  -- each digest is the root of the leaf digests below it
  placed : (k j q : ℕ) → k + j ≡ m → q < 2 ^ j → place (alike node) k (part k q leaves)
      ≡ Root (get_or memory (2 ^ j - 1 + q) [])
  placed zero j q at below =
      let le : j ≤ m = omega arith in
      let last : j ≡ m = omega arith in
      let whole : 2 ^ suc j ≡ inner + 1 = ap (λ (n : ℕ). 2 ^ suc n) last ∙ sym inner-is in
      let left : get_or (part 0 q leaves) 0 [] ≡ get_or memory (2 ^ suc j - 1 + 2 * q) [] =
      get_or-part q 0 leaves (omega arith) ∙ leaf-read (2 * q + 0) ∙ ap (λ (i : ℕ). get_or memory i []) (omega arith) in
      let right : get_or (part 0 q leaves) 1 [] ≡ get_or memory (2 ^ suc j - 1 + (2 * q + 1)) [] =
      get_or-part q 1 leaves (omega arith) ∙ leaf-read (2 * q + 1) ∙ ap (λ (i : ℕ). get_or memory i []) (omega arith) in
      rw (left, right) (ap Root (sym (level-hashed j q le below)))
  placed (suc k) j q at below =
      let le : j ≤ m = omega arith in
      let twice = pow-succ' 2 j in
      let left = placed k (suc j) (2 * q) (omega arith) (omega arith) in
      let right = placed k (suc j) (2 * q + 1) (omega arith) (omega arith) in
      rw (part-left k q leaves, part-right k q leaves, left, right) (ap Root (sym (level-hashed j q le below)))

  levels-are : upper_levels leaves ≡ m
  levels-are = upper_levels-is m leaves power

  pub held-root : root (alike node) leaves ≡ Ok (get_or memory 0 [])
  held-root =
      let top = placed m 0 0 (omega arith) (omega arith) in
      rw levels-are (ap outcome_of (rw (part-whole m leaves power) at top))

  -- ---- rows

  abbrev rows : List (List Digest)
  rows = rows_in_order (suc m) above

  long : length above + 1 ≡ 2 ^ suc m
  long = omega (arith, length-take-le inner memory (omega arith), inner-is)

  wide : (k : ℕ) → k ≤ m → length (get_or rows k []) ≡ 2 ^ (m - k)
  wide k le = let e : suc m - 1 - k ≡ m - k = omega arith in rw e at (length-row (suc m) k above long (omega arith))

  row-read : (k q : ℕ) → k ≤ m → q < 2 ^ (m - k) → get_or (get_or rows k []) q [] ≡ get_or memory (2 ^
      (m - k) - 1 + q) []
  row-read k q le below =
      let e : suc m - 1 - k ≡ m - k = omega arith in
      let two : 0 < 2 = omega arith in
      let up : 2 ^ suc (m - k) ≤ 2 ^ suc m = pow-le-pow_right two (omega arith) in
      let twice = pow-succ' 2 (m - k) in
      let within : q < 2 ^ (suc m - 1 - k) = rw e below in
      let read = rw e at (digest-in_order (suc m) k above long (omega arith) q within) in
      read ∙ get_or-take inner memory (2 ^ (m - k) - 1 + q) [] (omega (arith, inner-is, up, twice, pow_pos (m - k)))

  levels : AreLevels (length leaves) rows
  levels k below =
      let le : k ≤ m = omega (arith, length-rows_in_order (suc m) above) in
      let e : (m - k) + suc k ≡ suc m = omega arith in
      rw (wide k le) (sym (pow-add 2 (m - k) (suc k)) ∙ rw e (sym power))

  tree : IsTree (alike node) leaves rows
  tree = record {
    size = rw levels-are power;
    count = rw levels-are (length-rows_in_order (suc m) above);
    levels = levels;
    roots = λ k q below within.
        let le : k ≤ m = omega (arith, length-rows_in_order (suc m) above) in
        let inside : q < 2 ^ (m - k) = omega (arith, wide k le) in
        placed k (m - k) q (omega arith) inside ∙ ap Root (sym (row-read k q le inside));
  }

  -- ---- paths

  module _ (index : ℕ) (below : index < length leaves) where
    count-is : leaf_count (length memory) ≡ 2 ^ suc m
    count-is = omega (arith, holds.count, power)

    beside-leaf : kept_beside memory index 0 ≡ get_or leaves (neighbour index) []
    beside-leaf =
        let twice = pow-succ' 2 m in
        let one : (leaf_count (length memory) + index) / 2 ^ 0 ≡ 2 * 2 ^ m + index = omega (arith, count-is) in
        let at : 2 * 2 ^ m + neighbour index - 1 ≡ inner + neighbour index = omega (arith, inner-is, pow_pos m) in
        rw (one, neighbour-behind (2 ^ m) index, at) (sym (leaf-read (neighbour index)))

    beside-row : (k : ℕ) → k < m → kept_beside memory index (suc k)
        ≡ get_or (get_or rows k []) (neighbour (index / 2 ^ suc k)) []
    beside-row k under =
        let e = m - suc k in
        let j : m - k ≡ suc e = omega arith in
        let twice : 2 ^ (m - k) ≡ 2 * 2 ^ e = rw j (pow-succ' 2 e) in
        let q = index / 2 ^ suc k in
        let sum : suc m ≡ (m - k) + suc k = omega arith in
        let split : 2 ^ suc m ≡ 2 ^ (m - k) * 2 ^ suc k = ap (λ (n : ℕ). 2 ^ n) sum ∙ pow-add 2 (m - k) (suc k) in
        let place_is : (leaf_count (length memory) + index) / 2 ^ suc k ≡ 2 * 2 ^ e + q =
        ap (λ (n : ℕ). (n + index) / 2 ^ suc k) (count-is ∙ split)
        ∙ mul-add-div_right (pow_pos (suc k)) (2 ^ (m - k)) index ∙ ap (λ (n : ℕ). n + q) twice in
        let rows_many : length rows ≡ suc m = length-rows_in_order (suc m) above in
        let here : q < length (get_or rows k []) =
        place-inside rows (length leaves) levels k index (omega arith) below in
        let le : k ≤ m = omega arith in
        let within : neighbour q < 2 * 2 ^ e = neighbour-inside q (2 ^ e) (omega (arith, wide k le, here, twice)) in
        let inside : neighbour q < 2 ^ (m - k) = omega (arith, within, twice) in
        let at : 2 * 2 ^ e + neighbour q - 1 ≡ 2 ^ (m - k) - 1 + neighbour q = omega (arith, twice, pow_pos e) in
        rw (place_is, neighbour-behind (2 ^ e) q, at) (sym (row-read k (neighbour q) le inside))

    above-rows : (k : ℕ) → k ≤ m → kept_above memory index k ≡ beside_in rows k index
    above-rows zero le = refl
    above-rows (suc k) le = rw (beside-row k (omega arith), above-rows k (omega arith)) refl

    pub held-path : own_path (alike node) index leaves ≡ kept_way memory index
    held-path =
        let levels_is : log2 (leaf_count (length memory)) - 1 ≡ m =
        ap (λ (n : ℕ). log2 n - 1) count-is ∙ omega (arith, log2-pow (suc m)) in
        let same : kept_above memory index m ≡ beside_in rows (upper_levels leaves) index =
        rw levels-are (above-rows m (omega arith)) in
        own_path-rows (alike node) leaves rows tree index below (kept_above memory index m) same
        ∙ rw (levels_is, beside-leaf) refl
