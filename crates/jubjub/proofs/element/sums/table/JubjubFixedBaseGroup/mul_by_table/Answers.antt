use Rattle.std.proofs.Common.{get_or, length, ap, ap₂, ◌∙◌, arith}
use Rattle.ark_groups.specs.Group.{times}
use Rattle.ark_wide_fields.specs.Laws.Fp256.{wide_below}
use Rattle.jubjub.specs.Elements.{jubjub}
use Rattle.jubjub.proofs.TableRows.{length-rows}
use Rattle.jubjub.proofs.element.sums.table.JubjubFixedBaseGroup.mul_by_table.Goals as goal

pub multiple_by-requires-clause-length : goal.multiple_by-requires-clause-length
multiple_by-requires-clause-length c =
    ap length (c.deref.ensures.value ∙ c.table.invariant)
    ∙ length-rows 51 (get_or c.table.inside.multiples.items 0 jubjub.identity)

pub multiple_by-requires-clause-fits : goal.multiple_by-requires-clause-fits
multiple_by-requires-clause-fits c =
    let below = wide_below c.args.s in
    omega (arith, c.words.ensures, below)

pub returns : goal.returns
returns c =
    c.from_sum.ensures
    ∙ c.multiple_by.ensures (get_or c.table.inside.multiples.items 0 jubjub.identity)
    (c.deref.ensures.value ∙ c.table.invariant)
    ∙ ap₂ (times jubjub) c.words.ensures c.table.view_is
