-- Where the digests beside a way stand.
use Rattle.std.proofs.Common.{◌≡◌, ℕ, suc, ◌+◌, ◌-◌, ◌*◌, ◌/◌, ◌<◌, ◌≤◌, ◌^◌, Bool, true, false, if◌then◌else◌, ap, ◌∙◌, inl, inr, arith, pow_pos}
use Rattle.std.proofs.lemmas.Bool.{cases_lt}
use Rattle.std.proofs.lemmas.Nat.{div_below, le-div, pow-add}
use Rattle.std.proofs.Math.Nat.{pow-le-pow_right}
use Rattle.ark_paths.specs.Index.{IsTreeSize, bit_at, log2, neighbour}
use Rattle.ark_paths.proofs.Logs.{log2-pow}
use Rattle.ark_paths.proofs.PlaceLemmas.{neighbour-inside}
use Rattle.kept_tree.specs.KeptTree.{is_tree_length, leaf_count}
use Rattle.kept_tree.proofs.Lengths.{tree_length}

neighbour-least : (n : ℕ) → n ≤ neighbour n + 1
neighbour-least n = by_bit (bit_at n 0)
  where
    by_bit : (b : Bool) → n ≤ (if b then n - 1 else n + 1) + 1
    by_bit true = omega arith
    by_bit false = omega arith

-- Memory of so many digests is a tree's, with so many levels above its leaves.
pub record HasLevels (count levels : ℕ) : Type 0 where
  pub some : 0 < levels
  pub size : count + 1 ≡ 2 * 2 ^ levels
  pub leaves : leaf_count count ≡ 2 ^ levels
  pub half : count / 2 + 1 ≡ leaf_count count

pub has_levels : (count : ℕ) → is_tree_length count ≡ true → HasLevels count (log2 (leaf_count count))
has_levels count is =
    let tree = tree_length count is in
    let leaves : leaf_count count ≡ 2 ^ suc tree.0 = omega (arith, tree.1) in
    let levels : log2 (leaf_count count) ≡ suc tree.0 = ap log2 leaves ∙ log2-pow (suc tree.0) in
    rw levels (record { some = omega arith; size = tree.1; leaves = leaves; half = omega (arith, tree.1) })

-- the levels between the leaf digests and the root
pub levels-known : (count levels : ℕ) → is_tree_length count ≡ true → levels ≡ log2 (count / 2 + 1) - 1
    → levels + 1 ≡ log2 (leaf_count count)
levels-known count levels is levels_are =
    let tree = has_levels count is in
    omega (arith, tree.some, levels_are ∙ ap (λ (n : ℕ). log2 n - 1) tree.half)

pub levels-above : (count levels : ℕ) → levels + 1 ≡ log2 (leaf_count count) → log2 (leaf_count count) - 1 ≡ levels
levels-above count levels known = omega (arith, known)

pub levels-found : (count levels : ℕ) → is_tree_length count ≡ true → levels + 1 ≡ log2 (leaf_count count)
    → HasLevels count (levels + 1)
levels-found count levels is known = rw known (has_levels count is)

-- half of memory, and one more, is a tree's size
pub half-size : (count : ℕ) → is_tree_length count ≡ true → IsTreeSize (count / 2 + 1)
half-size count is = let tree = tree_length count is in (tree.0, omega (arith, tree.1))

-- a level's number is one of 64 bits
pub level-small : {count levels level : ℕ} → HasLevels count levels → level ≤ levels → count < 2 ^ 64 → level < 64
level-small {count} {levels} {level} tree high fits = elim (cases_lt level 64) [
  | inl lt ↦ lt
  | inr ge ↦
      let two : 0 < 2 = omega arith in
      let large : 2 ^ 64 ≤ 2 ^ level = pow-le-pow_right two ge in
      let up : 2 ^ level ≤ 2 ^ levels = pow-le-pow_right two high in
      absurd (omega (arith, large, up, tree.size, pow_pos levels))
]

-- a level's place, counted from one, has one beside it, and both stand in memory
module _ {count levels first index level : ℕ} (tree : HasLevels count levels) (first_is : first ≡ leaf_count count)
    (inside : index < leaf_count count) (low : level < levels) where
  abbrev at : ℕ
  at = (first + index) / 2 ^ level

  abbrev width : ℕ
  width = 2 ^ (levels - level)

  split : 2 ^ levels ≡ width * 2 ^ level
  split = let e : levels ≡ (levels - level) + level = omega arith in
      ap (λ (n : ℕ). 2 ^ n) e ∙ pow-add 2 (levels - level) level

  two-wide : 2 ≤ width
  two-wide = let two : 0 < 2 = omega arith in
      let one : 1 ≤ levels - level = omega arith in
      let le : 2 ^ 1 ≤ width = pow-le-pow_right two one in omega (arith, le)

  at-least : width ≤ at
  at-least = le-div width (first + index) (2 ^ level) (pow_pos level) (omega (arith, split, tree.leaves))

  at-below : at < 2 * width
  at-below =
      let twice : 2 * width * 2 ^ level ≡ 2 * (width * 2 ^ level) = grind arith in
      div_below (first + index) (2 ^ level) (2 * width) (pow_pos level) (omega (arith, twice, split, tree.leaves))

  pub beside-some : 1 ≤ neighbour at
  beside-some = omega (arith, neighbour-least at, at-least, two-wide)

  pub beside-below : neighbour at < count + 1
  beside-below =
      let two : 0 < 2 = omega arith in
      let most : width ≤ 2 ^ levels = pow-le-pow_right two (omega arith) in
      omega (arith, neighbour-inside at width at-below, most, tree.size)
