use Rattle.std.proofs.Common.{◌≡◌, length}
use Rattle.ark_poseidon_parameters.proofs.rows.row.Given as goal

abbrev pub invariant-loop : goal.invariant-loop
invariant-loop g l = length l.row.items ≡ l.counter
