use Rattle.std.proofs.Common.{map}
use Rattle.paxidore_calls.proofs.Cutting.{IsSoFar}
use Rattle.paxidore_calls.proofs.leaves.copies_of_leaves.Given as goal

abbrev pub invariant-leaves : goal.invariant-leaves
invariant-leaves l =
    IsSoFar (λ leaf. leaf) l.fn.bytes l.lengths l.place (map (λ leaf. leaf.items) l.all.items) l.rest
