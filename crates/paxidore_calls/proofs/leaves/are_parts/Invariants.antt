use Rattle.std.proofs.Common.{◌≡◌, drop}
use Rattle.std.specs.Option.{is_some}
use Rattle.paxidore_calls.specs.Cut.{parts_by}
use Rattle.paxidore_calls.proofs.leaves.are_parts.Given as goal

abbrev pub invariant-loop-place : goal.invariant-loop-place
invariant-loop-place l = is_some (parts_by l.fn.bytes l.lengths) ≡ is_some (parts_by l.rest (drop l.place l.lengths))
