-- Conflicts: two leaves that differ, and that paths show at one index under one root.
use Rattle.std.specs.Prelude.{◌≡◌, ◌⊎◌, ℕ, ◌≤◌, ◌==◌, ◌&&◌, not, Bool, true, false, List, length, map, Ok, if◌then◌else◌}
use Rattle.std.specs.Str.{bytes_eq}
use Rattle.ark_base.specs.Outcome.{Outcome, ◌>>=◌}
use Rattle.ark_base.specs.Reading.{IsBytes}
use Rattle.ark_paths.specs.Bind.{path_pair}
use Rattle.ark_paths.specs.Pair.{Digest, HashPair}
use Rattle.ark_paths.specs.Path.{Way, verdict}

-- the hashes of a tree whose leaves are bytes: the numbers of a digest, the digest of a leaf, and that of two digests
pub record TreeHashes (D : Type 0) : Type 0 where
  pub numbers : D → Digest
  pub leaf : List ℕ → Outcome Digest
  pub pair : Digest → Digest → Outcome Digest

-- the hash of two leaf digests and that of two digests above them, which are one
abbrev pub one_hash : {D : Type 0} → TreeHashes D → HashPair
one_hash tree = record { bottom = tree.pair; upper = tree.pair }

-- a leaf and its path: the digest beside it, those beside the way above, from below the root down, and the index
pub record ShownLeaf (D : Type 0) : Type 0 where
  pub leaf : List ℕ
  pub sibling : D
  pub above : List D
  pub index : ℕ

-- the one of these parts
abbrev pub shown_leaf : {D : Type 0} → List ℕ → D → List D → ℕ → ShownLeaf D
shown_leaf leaf sibling above index = record { leaf = leaf; sibling = sibling; above = above; index = index }

-- its path by numbers
abbrev pub shown_way : {D : Type 0} → TreeHashes D → ShownLeaf D → Way
shown_way tree shown =
    record { sibling = tree.numbers shown.sibling; above = map tree.numbers shown.above; index = shown.index }

-- whether its path gives the root, as `Path::verify` tests
abbrev pub shown_verdict : {D : Type 0} → TreeHashes D → Digest → ShownLeaf D → Outcome Bool
shown_verdict tree root shown = verdict (one_hash tree) (tree.leaf shown.leaf) (shown_way tree shown) root

-- it does
abbrev pub IsShownUnder : {D : Type 0} → TreeHashes D → Digest → ShownLeaf D → Type 0
IsShownUnder tree root shown = shown_verdict tree root shown ≡ Ok true

-- Two leaves of one length differ, and their paths have one index and one length.
pub record AreInConflict {D : Type 0} (a b : ShownLeaf D) : Type 0 where
  pub bytes : IsBytes a.leaf × IsBytes b.leaf
  pub as_long : length a.leaf ≡ length b.leaf
  pub differ : a.leaf ≡ b.leaf → ⊥
  pub index : a.index ≡ b.index
  pub height : length a.above ≡ length b.above

-- the pair of a leaf's path at a level, the root's pair being level 0
abbrev pub shown_pair : {D : Type 0} → TreeHashes D → ShownLeaf D → ℕ → Outcome (Digest × Digest)
shown_pair tree shown level = do
  digest ← tree.leaf shown.leaf
  path_pair (one_hash tree) (shown_way tree shown) digest level

-- At this level the pairs of two paths give something.
pub record PairsGive {D : Type 0} (tree : TreeHashes D) (Gives : Digest × Digest → Digest × Digest → Type 0)
    (a b : ShownLeaf D) (level : ℕ) : Type 0 where
  pub in_range : level ≤ length a.above
  pub left : Digest × Digest
  pub left_is : shown_pair tree a level ≡ Ok left
  pub right : Digest × Digest
  pub right_is : shown_pair tree b level ≡ Ok right
  pub given : Gives left right

-- Two leaves give something, or the pairs of their paths at a level do.
abbrev pub Give : {D : Type 0} → TreeHashes D → (List ℕ → List ℕ → Type 0)
    → (Digest × Digest → Digest × Digest → Type 0) → ShownLeaf D → ShownLeaf D → Type 0
Give tree LeavesGive Gives a b = LeavesGive a.leaf b.leaf ⊎ ((level : ℕ) × PairsGive tree Gives a b level)

-- Two leaves in conflict do, where their paths give one root.
abbrev pub ConflictsGive : {D : Type 0} → TreeHashes D → (List ℕ → List ℕ → Type 0)
    → (Digest × Digest → Digest × Digest → Type 0) → Type 0
ConflictsGive {D} tree LeavesGive Gives =
    (root : Digest) (a b : ShownLeaf D) → AreInConflict a b → IsShownUnder tree root a → IsShownUnder tree root b
    → Give tree LeavesGive Gives a b

-- whether two leaves of one length differ, and their paths have one index and one length
abbrev pub are_in_conflict : {D : Type 0} → ShownLeaf D → ShownLeaf D → Bool
are_in_conflict a b =
    (length a.leaf == length b.leaf) && (not (bytes_eq a.leaf b.leaf) && ((a.index == b.index)
    && (length a.above == length b.above)))

-- whether they are in conflict and both paths give the root, or the first refusal of a path
abbrev pub conflict_verdict : {D : Type 0} → TreeHashes D → Digest → ShownLeaf D → ShownLeaf D → Outcome Bool
conflict_verdict tree root a b =
    if are_in_conflict a b then (do
      first ← shown_verdict tree root a
      if first then shown_verdict tree root b else Ok false)
    else Ok false
