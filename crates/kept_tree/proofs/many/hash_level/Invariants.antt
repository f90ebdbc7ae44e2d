use Rattle.kept_tree.proofs.LevelPlaces.{LevelWaits}
use Rattle.kept_tree.proofs.many.hash_level.Given as goal

abbrev pub invariant-indexes : goal.invariant-indexes
invariant-indexes g l =
    LevelWaits g.H.ArrayHash.node_hash l.fn.memory l.memory l.level l.indexes l.index-index l.run l.count
