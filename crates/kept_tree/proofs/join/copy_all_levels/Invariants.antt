use Rattle.std.proofs.Common.{◌≡◌, ℕ, ◌+◌, ◌-◌, ◌/◌, ◌^◌, length}
use Rattle.kept_tree.specs.JoinedTrees.{CopiesLevels}
use Rattle.kept_tree.proofs.join.copy_all_levels.Given as goal

abbrev pub invariant-levels : goal.invariant-levels
invariant-levels l = record {
  at : ℕ;
  is : l.width ≡ 2 ^ at;
  copied : CopiesLevels l.count (length l.parts / l.count) l.width l.parts l.fn.tree l.tree;
}

abbrev pub decreases-levels : goal.decreases-levels
decreases-levels l = l.leaves + 1 - l.width
