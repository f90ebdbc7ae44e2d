-- No refusal of hashes of arrays is `OutOfMemory`: they refuse nothing.
use Rattle.std.specs.Prelude.{ℕ, List}
use Rattle.ark_paths.specs.Pair.{AreDecided, Digest}
use Rattle.ark_trees.specs.Arrays.{array_hashes}

pub arrays-decided : {Z : Type 0} (leaf_hash : List ℕ → Digest) (node_hash : Digest → Digest → Digest)
    → AreDecided (array_hashes {Z = Z} leaf_hash node_hash)
arrays-decided leaf_hash node_hash = record { leaf = λ _. tt; bottom = λ _ _. tt; upper = λ _ _. tt }
