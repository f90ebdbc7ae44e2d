-- No refusal of a level's hash is `OutOfMemory`.
use Rattle.std.specs.Prelude.{ℕ, zero, suc}
use Rattle.ark_base.specs.Outcome.{IsDecided}
use Rattle.ark_paths.specs.Pair.{Digest, HashPair}
use Rattle.incremental_trees.specs.Nodes.{level_hash}

pub level_hash-decided : (h : HashPair) → ((a b : Digest) → IsDecided (h.bottom a b))
    → ((a b : Digest) → IsDecided (h.upper a b)) → (level : ℕ) (a b : Digest) → IsDecided (level_hash h level a b)
level_hash-decided h bottom upper zero a b = bottom a b
level_hash-decided h bottom upper (suc level) a b = upper a b
