use Rattle.std.proofs.Common.{◌≡◌, drop, map}
use Rattle.incremental_trees.specs.Nodes.{rising_root}
use Rattle.incremental_trees.proofs.verify.top_over.Given as goal

abbrev pub invariant-loop-level : goal.invariant-loop-level
invariant-loop-level g l =
    let numbers = g.D.Numbered.numbers in
    let hash = g.T.LevelHasher.nodes l.hasher in
    record {
      rises : rising_root hash l.level l.place (drop l.level (map numbers l.nodes)) (numbers l.node)
          ≡ rising_root hash 0 l.fn.index (map numbers l.nodes) (numbers l.fn.leaf);
    }
