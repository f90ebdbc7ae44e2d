-- Leaves in blocks of 1,024, and the roots of these.
use Rattle.std.specs.Prelude.{◌≡◌, ℕ, ◌*◌, ◌<◌, List, [], length, take, drop, get_or, Ok}
use Rattle.ark_paths.specs.Pair.{Digest}
use Rattle.ark_paths.specs.Root.{root}
use Rattle.kept_tree.specs.KeptTree.{PlainNode, alike}

-- the digests of a block, by its number
abbrev pub block_of : ℕ → List Digest → List Digest
block_of number digests = take 1024 (drop (1024 * number) digests)

-- Each of some digests is the root of the block with its number.
abbrev pub AreBlockRoots : PlainNode → List Digest → List Digest → Type 0
AreBlockRoots node digests roots =
    (number : ℕ) → number < length roots → root (alike node) (block_of number digests) ≡ Ok (get_or roots number [])
