-- Trees of equal size that are joined to one.
use Rattle.std.proofs.Common.{◌≡◌, ℕ, zero, suc, ◌+◌, ◌-◌, ◌*◌, ◌/◌, ◌%◌, ◌<◌, ◌≤◌, ◌^◌, Bool, true, false, ◌&&◌, ◌==◌, nat_lt, List, [], length, drop, get_or, refl, sym, ap, ◌∙◌, inl, inr, arith, pow_pos}
use Rattle.std.proofs.lemmas.Bool.{cases_lt, eqb-true, ltb-true}
use Rattle.std.proofs.lemmas.List.{ext_get_or, get_or-drop, get_or-take, length-drop, length-take-le}
use Rattle.std.proofs.lemmas.Nat.{div_below, le-div, mul-le}
use Rattle.std.proofs.Math.Nat.{add-mul, mul-add, pow-le-pow_right, pow-succ'}
use Rattle.ark_paths.specs.Pair.{Digest}
use Rattle.kept_tree.specs.JoinedTrees.{CopiesLevels, JoinsTrees, KeepsShares, is_joined_length, place_joined, share_of}
use Rattle.kept_tree.specs.KeptTree.{IsHashed, KeepsTree, PlainNode, Rehashes, is_tree_length, kept_leaves, leaf_count}
use Rattle.kept_tree.proofs.JoinedPlaces.{places-fit, row-below, twice-row}
use Rattle.kept_tree.proofs.Lengths.{tree_length}

-- So many parts have so many digests together, and a tree over all their leaves has as many as the last number says.
pub record JoinedSizes (digests count tree : ℕ) : Type 0 where
  pub some : 0 < count
  pub levels : ℕ
  pub part : digests / count + 1 ≡ 2 * 2 ^ suc levels
  pub parts : digests ≡ count * (digests / count)
  pub whole : tree + 1 ≡ count * (digests / count + 1)
  pub top : ℕ
  pub power : tree + 1 ≡ 2 * 2 ^ suc top

five_true : (a b c d e : Bool) → (a && b && c && d && e) ≡ true
    → (a ≡ true) × (b ≡ true) × (c ≡ true) × (d ≡ true) × (e ≡ true)
five_true true true true true true is = (refl, refl, refl, refl, refl)
five_true true true true true false is = absurd cc
five_true true true true false e is = absurd cc
five_true true true false d e is = absurd cc
five_true true false c d e is = absurd cc
five_true false b c d e is = absurd cc

pub joined-sizes : (digests count tree : ℕ) → is_joined_length digests count tree ≡ true
    → JoinedSizes digests count tree
joined-sizes digests count tree is =
    let all = five_true (nat_lt 0 count) (digests % count == 0) (is_tree_length (digests / count)) (is_tree_length tree)
    (digests + count == tree + 1) is in
    let some = ltb-true 0 count all.0 in
    let none : digests % count ≡ 0 = eqb-true (digests % count) 0 all.1 in
    let sum : digests + count ≡ tree + 1 = eqb-true (digests + count) (tree + 1) all.4 in
    let part = tree_length (digests / count) all.2 in
    let whole = tree_length tree all.3 in
    let parts : digests ≡ count * (digests / count) = omega (arith, some, none) in
    record {
      some = some;
      levels = part.0;
      part = part.1;
      parts = parts;
      whole = omega (arith, sum, parts, mul-add count (digests / count) 1);
      top = whole.0;
      power = whole.1;
    }

-- a run of digests of a level is inside both
pub run-fits : {digests count tree : ℕ} → JoinedSizes digests count tree → (width n : ℕ) → 0 < width
    → width ≤ leaf_count (digests / count) → n < count
    → ((count + n) * width - 1 + width ≤ tree) × (n * (digests / count) + width - 1 + width ≤ digests)
run-fits {digests} {count} {tree} sizes width n some within below =
    let fit = places-fit count (digests / count) width n some (omega (arith, within)) below in
    (omega (arith, fit.0, sizes.whole, some), omega (arith, fit.1, sizes.parts, some))

-- A place of a joined tree, counted from one, is that of a digest of a part.
record Spot (count levels x : ℕ) : Type 0 where
  level : ℕ
  low : level < levels
  n : ℕ
  inside : n < count
  at : ℕ
  within : at < 2 ^ level
  is : x ≡ (count + n) * 2 ^ level + at

found-spot : (count levels x : ℕ) → count ≤ x → x < count * 2 ^ levels → Spot count levels x
found-spot count zero x least below = absurd (omega (arith, below))
found-spot count (suc levels) x least below = elim (cases_lt x (count * 2 ^ levels)) [
  | inl lt ↦
      let lower = found-spot count levels x least lt in
      record {
        level = lower.level;
        low = omega (arith, lower.low);
        n = lower.n;
        inside = lower.inside;
        at = lower.at;
        within = lower.within;
        is = lower.is;
      }
  | inr ge ↦
      let width = 2 ^ levels in
      let some = pow_pos levels in
      let wide : x < (count + count) * width =
      omega (arith, below, twice-row count width, ap (λ (k : ℕ). count * k) (pow-succ' 2 levels)) in
      let few = div_below x width (count + count) some wide in
      let many = le-div count x width some ge in
      let row : count + (x / width - count) ≡ x / width = omega (arith, many) in
      record {
        level = levels;
        low = omega arith;
        n = x / width - count;
        inside = omega (arith, few, many);
        at = x % width;
        within = omega (arith, some);
        is = rw row (omega (arith, some));
      }
]

-- the digest of a place that was copied
share-read : (size : ℕ) (parts : List Digest) (n k : ℕ) → k < size → get_or (share_of size parts n) k []
    ≡ get_or parts (n * size + k) []
share-read size parts n k below =
    get_or-take size (drop (n * size) parts) k [] below ∙ get_or-drop (n * size) parts k []

share-long : (size count : ℕ) (parts : List Digest) (n : ℕ) → length parts ≡ count * size → n < count
    → length (share_of size parts n) ≡ size
share-long size count parts n long below =
    length-take-le size (drop (n * size) parts)
    (omega (arith, length-drop (n * size) parts, long, row-below n count size below))

-- the levels are copied, and then the digests above them hashed
pub joins-both : (node : PlainNode) {count : ℕ} {parts old new : List Digest} (mid : List Digest)
    → CopiesLevels count (length parts / count) (leaf_count (length parts / count) + 1) parts old mid
    → Rehashes node 0 (count - 1) mid new → JoinsTrees node count parts old new
joins-both node {count} mid levels above = record {
  levels = record {
    long = above.long ∙ levels.long;
    copied = λ level n at small below within.
        let some = pow_pos level in
        let first : count * 1 ≤ (count + n) * 2 ^ level =
        mul-le count 1 (count + n) (2 ^ level) (omega arith) (omega (arith, some)) in
        above.others (place_joined count (2 ^ level) n at) (inr (omega (arith, first)))
        ∙ levels.copied level n at small below within;
  };
  hashed = λ i below. above.hashed i (omega arith) (omega (arith, below));
}

module _ (node : PlainNode) {count : ℕ} {parts old new leaves : List Digest}
    (sizes : JoinedSizes (length parts) count (length old)) (joins : JoinsTrees node count parts old new)
    (keeps : KeepsShares node parts count leaves) where
  abbrev size : ℕ
  size = length parts / count

  abbrev n_leaves : ℕ
  n_leaves = 2 ^ suc (sizes.levels)

  leaves-are : leaf_count size ≡ n_leaves
  leaves-are = omega (arith, sizes.part)

  tree-half : length new / 2 + 1 ≡ count * n_leaves
  tree-half = omega (
    arith,
    sizes.whole,
    joins.levels.long,
    ap (λ (k : ℕ). count * k) sizes.part,
    twice-row count n_leaves,
    add-self,
  )
    where
      add-self : (count + count) * n_leaves ≡ 2 * (count * n_leaves)
      add-self = sym (twice-row count n_leaves) ∙ ap (λ (k : ℕ). count * k) (omega arith) ∙ mul-add count n_leaves
          n_leaves ∙ omega arith

  -- a digest of a part in both
  spot-read : (level n at : ℕ) → level ≤ suc (sizes.levels) → n < count → at < 2 ^ level
      → get_or new (place_joined count (2 ^ level) n at) [] ≡ get_or (share_of size parts n) (2 ^ level + at - 1) []
  spot-read level n at low below within =
      let two : 0 < 2 = omega arith in
      let up : 2 ^ level ≤ n_leaves = pow-le-pow_right two low in
      joins.levels.copied level n at (omega (arith, up, leaves-are)) below within
      ∙ sym (share-read size parts n (2 ^ level + at - 1) (omega (arith, up, within, sizes.part, pow_pos level)))

  spot-hashed : (i : ℕ) → Spot count (suc (sizes.levels)) (i + 1) → IsHashed node new i
  spot-hashed i spot =
      let level = spot.level in
      let n = spot.n in
      let at = spot.at in
      let two : 0 < 2 = omega arith in
      let up : 2 ^ suc level ≤ n_leaves = pow-le-pow_right two (omega (arith, spot.low)) in
      let twice = pow-succ' 2 level in
      let row : (count + n) * 2 ^ suc level ≡ 2 * ((count + n) * 2 ^ level) = omega (arith, doubled level n) in
      let j = 2 ^ level + at - 1 in
      let long = share-long size count parts n sizes.parts spot.inside in
      let own : get_or new i [] ≡ get_or (share_of size parts n) j [] =
      ap (λ (k : ℕ). get_or new k []) (omega (arith, spot.is)) ∙ spot-read level n at (omega (arith, spot.low))
      spot.inside spot.within in
      let left : get_or new (2 * i + 1) [] ≡ get_or (share_of size parts n) (2 * j + 1) [] =
      ap (λ (k : ℕ). get_or new k []) (omega (arith, spot.is, row))
      ∙ spot-read (suc level) n (2 * at) (omega (arith, spot.low)) spot.inside (omega (arith, twice, spot.within))
      ∙ ap (λ (k : ℕ). get_or (share_of size parts n) k []) (omega (arith, twice, pow_pos level)) in
      let right : get_or new (2 * i + 2) [] ≡ get_or (share_of size parts n) (2 * j + 2) [] =
      ap (λ (k : ℕ). get_or new k []) (omega (arith, spot.is, row))
      ∙ spot-read (suc level) n (2 * at + 1) (omega (arith, spot.low)) spot.inside (omega (arith, twice, spot.within))
      ∙ ap (λ (k : ℕ). get_or (share_of size parts n) k []) (omega (arith, twice, pow_pos level)) in
      let hashed = (keeps.each n spot.inside).hashed j
      (omega (arith, long, sizes.part, up, twice, spot.within, pow_pos level)) in
      own ∙ hashed ∙ (λ k. node (sym left k) (sym right k))
    where
      doubled : (level n : ℕ) → (count + n) * 2 ^ suc level ≡ 2 * ((count + n) * 2 ^ level)
      doubled level n = ap (λ (k : ℕ). (count + n) * k) (pow-succ' 2 level) ∙ twice-row (count + n) (2 ^ level)
          ∙ sym (twice-row (count + n) (2 ^ level)) ∙ ap (λ (k : ℕ). (count + n) * k) (omega arith)
          ∙ mul-add (count + n) (2 ^ level) (2 ^ level) ∙ omega arith

  leaf-count : length leaves ≡ count * n_leaves
  leaf-count = keeps.whole ∙ ap (λ (k : ℕ). count * k) leaves-are

  leaf-read : (j : ℕ) → j < length leaves → get_or (kept_leaves new) j [] ≡ get_or leaves j []
  leaf-read j below =
      let width = n_leaves in
      let some = pow_pos (suc (sizes.levels)) in
      let n = j / width in
      let at = j % width in
      let inside : n < count = div_below j width count some (omega (arith, below, leaf-count)) in
      let is : j ≡ n * width + at = omega (arith, some) in
      let within : at < width = omega (arith, some) in
      let each = keeps.each n inside in
      let long = share-long size count parts n sizes.parts inside in
      let place : length new / 2 + j ≡ place_joined count width n at =
      omega (arith, tree-half, is, add-row n, some) in
      let half : length (share_of size parts n) / 2 + at ≡ width + at - 1 = omega (arith, long, sizes.part, some) in
      get_or-drop (length new / 2) new j []
      ∙ ap (λ (k : ℕ). get_or new k []) place
      ∙ spot-read (suc (sizes.levels)) n at (omega arith) inside within
      ∙ ap (λ (k : ℕ). get_or (share_of size parts n) k []) (sym half)
      ∙ sym (get_or-drop (length (share_of size parts n) / 2) (share_of size parts n) at [])
      ∙ ap (λ (ds : List Digest). get_or ds at []) each.last
      ∙ ap (λ (w : ℕ). get_or (share_of w leaves n) at []) leaves-are
      ∙ share-read width leaves n at within
      ∙ ap (λ (k : ℕ). get_or leaves k []) (sym is)
    where
      add-row : (n : ℕ) → (count + n) * n_leaves ≡ count * n_leaves + n * n_leaves
      add-row n = add-mul count n n_leaves

  pub joined-tree : KeepsTree node new leaves
  joined-tree = record {
    size = (sizes.top, omega (arith, leaf-count, tree-half, sizes.power, joins.levels.long));
    count = omega (arith, leaf-count, tree-half, sizes.power, joins.levels.long);
    last = ext_get_or [] (kept_leaves new) leaves
        (length-drop (length new / 2) new ∙ omega (arith, leaf-count, tree-half, sizes.power, joins.levels.long))
        (λ j below. leaf-read j (omega (
          arith,
          below,
          length-drop (length new / 2) new,
          leaf-count,
          tree-half,
          sizes.power,
          joins.levels.long,
        )));
    hashed = λ i below. elim (cases_lt (i + 1) count) [
      | inl lt ↦ joins.hashed i lt
      | inr ge ↦ spot-hashed i (found-spot count (suc (sizes.levels)) (i + 1) ge (omega (arith, below, tree-half)))
    ];
  }
