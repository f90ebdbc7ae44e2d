use Rattle.std.proofs.Common.{sym, ◌∙◌, refl}
use Rattle.std.specs.Int.{from_bool}
use Rattle.ark_groups.specs.Group.{times}
use Rattle.ark_wide_fields.specs.Laws.Fp256.{wide_below}
use Rattle.ark_wide_fields.proofs.PowerSteps.{unless}
use Rattle.jubjub.specs.Edwards.{Coordinates}
use Rattle.jubjub.specs.Jubjub.{curve, d}
use Rattle.jubjub.specs.Laws.Cofactor.{cofactor_clears}
use Rattle.jubjub.specs.Values.{value}
use Rattle.jubjub.specs.Laws.Completeness.{jubjub_is_complete}
use Rattle.jubjub.proofs.Decoded.{none_over, zero_over, found_over}
use Rattle.jubjub.proofs.element.found.cleared_over.Goals as goal

pub returns-in_err-x : goal.returns-in_err-x
returns-in_err-x c =
    c.from_residual.ensures ∙ sym (none_over (value c.args.y) (from_bool c.args.odd) (wide_below c.args.y)
    (c.in_err-x.ensures.none refl))

pub returns-then-is_neutral : goal.returns-then-is_neutral
returns-then-is_neutral c =
    let x = value c.in_ok-x.x in
    let on = c.in_ok-x.ensures.some in
    let a : Coordinates = record { x = x; y = value c.args.y } in
    sym (zero_over (value c.args.y) (from_bool c.args.odd) x on c.in_ok-x.ensures.parity
    ((c.is_neutral.ensures d jubjub_is_complete (times curve 8 a) (cofactor_clears a on).on_curve
    (c.eight_times-cleared.ensures a on c.lifted.ensures)).0 c.if-is_neutral.true))

pub of_extended-requires : goal.of_extended-requires
of_extended-requires c =
    let on = c.in_ok-x.ensures.some in
    let a : Coordinates = record { x = value c.in_ok-x.x; y = value c.args.y } in
    (times curve 8 a, cofactor_clears a on, c.eight_times-cleared.ensures a on c.lifted.ensures)

pub returns : goal.returns
returns c =
    let x = value c.in_ok-x.x in
    let on = c.in_ok-x.ensures.some in
    let a : Coordinates = record { x = x; y = value c.args.y } in
    let b : Coordinates = times curve 8 a in
    let inside = cofactor_clears a on in
    let stands = c.eight_times-cleared.ensures a on c.lifted.ensures in
    sym (found_over (value c.args.y) (from_bool c.args.odd) x on c.in_ok-x.ensures.parity
    (unless c.is_neutral.result (c.is_neutral.ensures d jubjub_is_complete b inside.on_curve stands)
    c.if-is_neutral.false) inside
    c.of_extended.result (c.of_extended.ensures b inside stands))
