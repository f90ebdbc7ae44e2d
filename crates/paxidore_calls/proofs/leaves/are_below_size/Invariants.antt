use Rattle.std.proofs.Common.{◌≡◌, nat_lt, drop}
use Rattle.std.specs.List.{list_all}
use Rattle.paxidore_calls.proofs.leaves.are_below_size.Given as goal

abbrev pub invariant-loop-index : goal.invariant-loop-index
invariant-loop-index l = list_all (λ i. nat_lt i l.size) l.indexes ≡ list_all (λ i. nat_lt i l.size)
    (drop l.index-index l.indexes)
