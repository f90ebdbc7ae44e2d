use Rattle.std.proofs.Common.{inl, inr, ap, ◌∙◌}
use Rattle.paxidore_c.specs.Poseidon.{refused_inputs}
use Rattle.paxidore_c.proofs.poseidon.table_for.Goals as goal

pub returns-in-Err-clause-refused : goal.returns-in-Err-clause-refused
returns-in-Err-clause-refused c = λ some few. elim (c.in-Err.ensures.refused some few) [
  | inl memory ↦ inl (c.refused_inputs.ensures ∙ ap refused_inputs memory)
  | inr matrix ↦ inr (matrix.0, c.refused_inputs.ensures ∙ ap refused_inputs matrix.1)
]
