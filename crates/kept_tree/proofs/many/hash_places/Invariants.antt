use Rattle.kept_tree.proofs.LevelPlaces.{PlacesUpTo}
use Rattle.kept_tree.proofs.many.hash_places.Given as goal

abbrev pub invariant-places : goal.invariant-places
invariant-places g l = PlacesUpTo g.H.ArrayHash.node_hash l.fn.memory l.memory l.places l.n
