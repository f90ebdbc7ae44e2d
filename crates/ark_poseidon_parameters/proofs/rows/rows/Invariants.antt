use Rattle.std.proofs.Common.{◌≡◌, length, All, vec_len}
use Rattle.ark_poseidon_parameters.proofs.rows.rows.Given as goal

abbrev pub invariant-loop : goal.invariant-loop
invariant-loop g l = record {
  count : length l.rows.items ≡ l.counter;
  widths : All (λ row. vec_len row ≡ l.width)
      l.rows.items;
}
