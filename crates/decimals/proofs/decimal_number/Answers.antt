use Rattle.std.proofs.Common.{◌∙◌, subst}
use Rattle.std.specs.Str.Parse.{ParsesUnsigned}
use Rattle.decimals.proofs.Numerals.{number_of-parsed, number_of-no_text, of_ok, of_err}
use Rattle.decimals.proofs.decimal_number.Goals as goal

pub returns-in_err-ok : goal.returns-in_err-ok
returns-in_err-ok c =
    let first = c.in_ok-first.ensures.item.3 in
    let foreign = of_err _ _ c.from_utf8.result c.in_err-ok.ensures.value c.from_utf8.ensures.cases in
    c.from_residual-in_err-ok.ensures ∙ number_of-no_text c.args.text.now c.in_ok-first.field-0.now (first.1 0) first.0
    c.if-text-gt1.either foreign.1.0

pub returns : goal.returns
returns c =
    let first = c.in_ok-first.ensures.item.3 in
    let text = of_ok _ _ c.from_utf8.result c.in_ok-ok.field-0 c.in_ok-ok.ensures.value c.from_utf8.ensures.cases in
    let parsed = subst (λ bs. ParsesUnsigned 64 10 bs c.parse.result) text.0 c.parse.ensures.value.0 in
    c.ok-2.ensures.value ∙ number_of-parsed c.args.text.now c.in_ok-first.field-0.now (first.1 0) first.0
    c.if-text-gt1.either c.parse.result c.if-first-eq43.false parsed
