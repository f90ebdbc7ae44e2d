-- No refusal of these hashes is `OutOfMemory`.
use Rattle.std.specs.Prelude.{ℕ, ◌==◌}
use Rattle.ark_base.specs.Outcome.{IsDecided}
use Rattle.ark_base.specs.Laws.Outcomes.{tested-decided}
use Rattle.ark_paths.specs.Pair.{Digest}
use Rattle.ark_trees.specs.Toy.{toy_number, toy_leaf, refusing_pair}

pub toy_leaf-decided : (leaf : ℕ) → IsDecided (toy_leaf leaf)
toy_leaf-decided leaf = tested-decided (leaf == 999) _ _ (λ same. cc) tt

pub refusing_pair-decided : (a b : Digest) → IsDecided (refusing_pair a b)
refusing_pair-decided a b = tested-decided (toy_number b == 0) _ _ (λ same. cc) tt
