use Rattle.std.proofs.Common.{◌≡◌, ◌-◌, ◌++◌}
use Rattle.kept_tree.specs.KeptTree.{kept_above}
use Rattle.kept_tree.proofs.multi_path.above_from.Given as goal

abbrev pub invariant-levels : goal.invariant-levels
invariant-levels l =
    l.digests.items ++ kept_above l.memory l.index (l.fn.levels - l.done) ≡ kept_above l.memory l.index l.fn.levels
