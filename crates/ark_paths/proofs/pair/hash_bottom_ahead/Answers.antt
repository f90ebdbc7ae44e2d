use Rattle.std.proofs.Common.{◌∙◌, ap, sym}
use Rattle.ark_crh.specs.Ahead.{lent_couples}
use Rattle.ark_crh.specs.Ahead.{couples_seen}
use Rattle.ark_base.specs.Laws.Steps.{done_injective}
use Rattle.ark_paths.proofs.Ahead.{converted-run}
use Rattle.ark_paths.proofs.pair.hash_bottom_ahead.Goals as goal

pub returns : goal.returns
returns g c =
    let numbers = g.H.Input.Numbered.numbers in
    converted-run g.C.DigestConverter.conversion (g.H.TwoToOneCRHScheme.evaluated c.args.pair_parameters.now)
    g.H.Output.Numbered.numbers (lent_couples g.L.Numbered.numbers c.args.couples.now)
    (couples_seen numbers c.in_ok-inputs.inputs.items) (lent_couples numbers c.deref-2.result.now)
    c.evaluate_ahead.result c.in_ok-inputs.ensures.couples
    (ap (couples_seen numbers) (sym c.deref.ensures.value)
    ∙ done_injective _ _ c.in_ok-run.ensures ∙ ap (lent_couples numbers) (sym c.deref-2.ensures.value))
    c.evaluate_ahead.ensures
