use Rattle.std.proofs.Common.{inl, inr, refl, sym, ap, ◌∙◌}
use Rattle.paxidore_calls.specs.Answer.{refused_of}
use Rattle.paxidore_c.proofs.poseidon_log.table_of_two.Goals as goal

pub returns-then-inputs-ne2-clause-read : goal.returns-then-inputs-ne2-clause-read
returns-then-inputs-ne2-clause-read c = λ inputs parameters spells.
    let table = c.in-Ok.ensures.spelled inputs parameters spells in
    inr (λ two. c.if-inputs-ne2.true (c.inputs.ensures.count ∙ table.0 ∙ two), refl)

pub returns-else-inputs-ne2-clause-read : goal.returns-else-inputs-ne2-clause-read
returns-else-inputs-ne2-clause-read c = λ inputs parameters spells.
    let table = c.in-Ok.ensures.spelled inputs parameters spells in
    (sym table.0 ∙ sym c.inputs.ensures.count ∙ c.if-inputs-ne2.false, table.1)

pub returns-in-Err-clause-read : goal.returns-in-Err-clause-read
returns-in-Err-clause-read c = λ inputs parameters spells.
    inl (c.from.ensures ∙ ap refused_of (c.in-Err.ensures.spelled inputs parameters spells))
