use Rattle.std.proofs.Common.{map}
use Rattle.merkle_log.specs.Walk.{both_roots}
use Rattle.merkle_log.proofs.Raised.{Raised}
use Rattle.merkle_log.proofs.consistency.is_front.Given as goal

abbrev pub invariant-complete : goal.invariant-complete
invariant-complete g l =
    let hash = (g.T.TreeHasher.hashes l.hasher).pair.upper in
    let numbers = g.D.Numbered.numbers in
    Raised hash l.index l.last (numbers l.old_root) (map numbers l.path)
    (both_roots hash l.new_size l.initial.index l.initial.last (numbers l.old_root) (map numbers l.path))

abbrev pub decreases-complete : goal.decreases-complete
decreases-complete g l = l.index
