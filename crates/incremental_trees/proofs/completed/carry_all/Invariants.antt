use Rattle.std.proofs.Common.{◌≡◌, ◌<◌, ◌+◌, ◌-◌, ◌/◌, ◌^◌, length, map}
use Rattle.ark_paths.specs.Rows.{digests_of}
use Rattle.incremental_trees.proofs.Completing.{AllCarried}
use Rattle.incremental_trees.proofs.completed.carry_all.Given as goal

abbrev pub invariant-odd : goal.invariant-odd
invariant-odd g l =
    let numbers = g.D.Numbered.numbers in
    record {
      below : l.level < length l.filled;
      count : length l.nodes.items ≡ l.level + 1;
      place : l.count ≡ l.fn.size / 2 ^ l.level;
      all : AllCarried (g.T.LevelHasher.nodes l.hasher) (length l.filled - 1) l.fn.size (numbers l.fn.leaf)
          (map numbers l.filled) l.level (digests_of numbers l.nodes);
    }

abbrev pub decreases-odd : goal.decreases-odd
decreases-odd g l = l.count
