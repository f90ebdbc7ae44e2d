use Rattle.std.proofs.Common.{◌*◌, ◌/◌, ◌≤◌, length, arith}
use Rattle.std.proofs.Math.Nat.{mul-add, mul-le-mul_left}
use Rattle.kept_tree.proofs.JoinedTrees.{joined-sizes, joined-tree, joins-both}
use Rattle.kept_tree.proofs.join.join_trees.Goals as goal

pub returns-clause-joins : goal.returns-clause-joins
returns-clause-joins g c = joins-both g.H.ArrayHash.node_hash c.copy_all_levels.new.tree c.copy_all_levels.ensures
    c.rehash_first.ensures

pub returns-clause-tree : goal.returns-clause-tree
returns-clause-tree g c = λ leaves keeps. joined-tree g.H.ArrayHash.node_hash
    (joined-sizes (length c.args.parts.now) c.args.count (length c.args.tree.now) c.requires)
    (returns-clause-joins g c) keeps

pub rehash_first-requires : goal.rehash_first-requires
rehash_first-requires g c =
    let sizes = joined-sizes (length c.args.parts.now) c.args.count (length c.args.tree.now) c.requires in
    let least : c.args.count * 1 ≤ c.args.count * (length c.args.parts.now / c.args.count) =
    mul-le-mul_left c.args.count (omega (arith, sizes.part)) in
    omega (
      arith,
      least,
      sizes.whole,
      mul-add c.args.count (length c.args.parts.now / c.args.count) 1,
      c.copy_all_levels.ensures.long,
    )
