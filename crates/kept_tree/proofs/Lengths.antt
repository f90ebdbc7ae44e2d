-- Lengths of memory for trees.
use Rattle.std.proofs.Common.{◌≡◌, ℕ, zero, suc, ◌+◌, ◌*◌, ◌/◌, ◌<◌, ◌≤◌, ◌^◌, Bool, true, false, ◌&&◌, List, length, nat_lt, refl, arith, nat_eq, pow_pos}
use Rattle.std.proofs.Math.Nat.{pow-succ'}
use Rattle.std.proofs.lemmas.Bool.{lt-ltb, ltb-true}
use Rattle.std.proofs.lemmas.List.{length-drop}
use Rattle.ark_paths.specs.Index.{IsTreeSize, is_tree_size, log2}
use Rattle.ark_paths.proofs.ReceivedProofs.{size-decided}
use Rattle.ark_paths.proofs.SizeLemmas.{power_decided}
use Rattle.ark_paths.specs.Pair.{Digest}
use Rattle.kept_tree.specs.KeptTree.{KeepsTree, IsHashed, PlainNode, is_tree_length, kept_leaves, leaf_count}

both_true : (a b : Bool) → (a && b) ≡ true → (a ≡ true) × (b ≡ true)
both_true true true is = (refl, refl)
both_true true false is = absurd cc
both_true false b is = absurd cc

-- a tree of 2 ^ (m + 1) leaves has as many digests
pub tree_length : (count : ℕ) → is_tree_length count ≡ true → (m : ℕ) × (count + 1 ≡ 2 * 2 ^ suc m)
tree_length count is =
    let both = both_true (nat_lt 2 count) (is_tree_size (count + 1)) is in
    by_power (size-decided (count + 1) both.1) (ltb-true 2 count both.0)
  where
    by_power : IsTreeSize (count + 1) → 2 < count → (m : ℕ) × (count + 1 ≡ 2 * 2 ^ suc m)
    by_power (zero, power) more = absurd (omega arith)
    by_power (suc m, power) more = (m, let twice = pow-succ' 2 (suc m) in omega arith)

-- memory of a tree's length whose digests are hashed holds the tree above its leaf digests
pub holds-here : (node : PlainNode) (memory : List Digest) → is_tree_length (length memory) ≡ true
    → ((i : ℕ) → i < length memory / 2 → IsHashed node memory i) → KeepsTree node memory (kept_leaves memory)
holds-here node memory is hashed =
    let size = tree_length (length memory) is in
    let long : length (kept_leaves memory) ≡ 2 ^ suc (size.0) =
    omega (arith, length-drop (length memory / 2) memory, size.1) in
    record { size = (size.0, long); count = omega (arith, long, size.1); last = refl; hashed = hashed }

-- 2 n - 1 is a tree's length where n is a tree's size
pub sized-length : (count n : ℕ) → IsTreeSize n → count + 1 ≡ 2 * n → is_tree_length count ≡ true
sized-length count n (m, size) whole =
    let twice = pow-succ' 2 (suc m) in
    let power : count + 1 ≡ 2 ^ suc (suc m) = omega (arith, whole, size) in
    let most : 2 ≤ 2 ^ suc m = omega (arith, pow-succ' 2 m, pow_pos m) in
    let some : 1 < count + 1 = omega (arith, power, twice) in
    let more : nat_lt 2 count ≡ true = lt-ltb 2 count (omega (arith, power, twice)) in
    let two : nat_lt 1 (count + 1) ≡ true = lt-ltb 1 (count + 1) some in
    let decided : nat_eq (count + 1) (2 ^ log2 (count + 1)) ≡ true =
    (power_decided (count + 1) some).1 (suc m, power) in
    rw (more, two, decided) refl

-- memory that holds a tree has a tree's length
pub held-length : (node : PlainNode) (memory leaves : List Digest) → KeepsTree node memory leaves
    → is_tree_length (length memory) ≡ true
held-length node memory leaves holds = sized-length (length memory) (length leaves) holds.size holds.count

-- and as many leaves
pub held-count : (node : PlainNode) (memory leaves : List Digest) → KeepsTree node memory leaves
    → leaf_count (length memory) ≡ length leaves
held-count node memory leaves holds = omega (arith, holds.count)
