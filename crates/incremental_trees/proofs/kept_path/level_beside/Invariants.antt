use Rattle.std.proofs.Common.{◌≢◌, ◌<◌, ◌/◌, ◌^◌, ℕ}
use Rattle.ark_paths.specs.Index.{neighbour}
use Rattle.incremental_trees.proofs.kept_path.level_beside.Given as goal

abbrev pub invariant-loop-level : goal.invariant-loop-level
invariant-loop-level l = record {
  none : (k : ℕ) → k < l.level → neighbour (l.index / 2 ^ k) ≢ l.other / 2 ^ k;
}
