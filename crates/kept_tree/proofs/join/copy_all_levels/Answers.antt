use Rattle.std.proofs.Common.{suc, length, arith}
use Rattle.std.proofs.Math.Nat.{pow-succ'}
use Rattle.kept_tree.proofs.JoinedPlaces.{levels-more}
use Rattle.kept_tree.proofs.JoinedTrees.{joined-sizes}
use Rattle.kept_tree.proofs.join.copy_all_levels.Goals as goal

pub copy_level-requires-clause-inside : goal.copy_level-requires-clause-inside
copy_level-requires-clause-inside c =
    let sizes = joined-sizes (length c.args.parts.now) c.args.count (length c.args.tree.now) c.requires in
    omega (arith, sizes.part, c.levels-test.true)

pub levels-preserved : goal.levels-preserved
levels-preserved c = record {
  at = suc c.levels.invariant.at;
  is = omega (arith, pow-succ' 2 c.levels.invariant.at, c.levels.invariant.is);
  copied = rw c.levels.invariant.is (levels-more c.levels.invariant.at c.levels.tree c.copy_level.new.tree
      (rw c.levels.invariant.is at c.levels.invariant.copied) (rw c.levels.invariant.is at c.copy_level.ensures));
}
