use Rattle.std.proofs.Common.{◌+◌, ◌/◌, length}
use Rattle.kept_tree.proofs.Changing.{ChangesUpTo}
use Rattle.kept_tree.proofs.change.set_leaf.Given as goal

abbrev pub invariant-up : goal.invariant-up
invariant-up g l =
    ChangesUpTo g.H.ArrayHash.node_hash l.fn.memory l.memory (length l.fn.memory / 2 + l.index) l.place l.digest

abbrev pub decreases-up : goal.decreases-up
decreases-up g l = l.place
