use Rattle.std.proofs.Common.{◌<◌, ◌-◌, length, map}
use Rattle.incremental_trees.proofs.Carrying.{IsCarried}
use Rattle.incremental_trees.proofs.nodes.carry.Given as goal

abbrev pub invariant-odd : goal.invariant-odd
invariant-odd g l =
    let numbers = g.D.Numbered.numbers in
    record {
      below : l.level < length l.filled;
      carried : IsCarried (g.T.LevelHasher.nodes l.hasher) (length l.filled - 1) l.fn.size (numbers l.fn.leaf)
          (map numbers l.filled) l.count l.level (numbers l.node);
    }

abbrev pub decreases-odd : goal.decreases-odd
decreases-odd g l = l.count
