use Rattle.std.proofs.Common.{Ok, Err, ap, sym, ◌∙◌}
use Rattle.merkle_map.specs.Parts.{shape}
use Rattle.merkle_map.specs.Rests.{is_hidden_rest}
use Rattle.merkle_map.proofs.Calls.{there-losing, unknown_losing}
use Rattle.merkle_map.proofs.remove.remove_from.Goals as goal

pub returns-then-is_unknown-clause-changed : goal.returns-then-is_unknown-clause-changed
returns-then-is_unknown-clause-changed g c =
    let nothing = g.D.Numbered.numbers c.args.nothing.now in
    let key = c.args.key.now in
    let old = shape g.D.Numbered.numbers c.args.part.now in
    there-losing nothing key old (c.in_ok-has_at.ensures ∙ ap Ok c.if-branch.true)
    ∙ unknown_losing nothing key old (ap is_hidden_rest (sym c.rest_without.ensures) ∙ sym c.is_unknown.ensures
    ∙ c.if-is_unknown.true)
    ∙ ap Err (sym c.hidden.ensures)
