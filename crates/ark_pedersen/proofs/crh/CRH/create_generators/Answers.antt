use Rattle.std.proofs.Common.{map, ◌∙◌, ap}
use Rattle.std.proofs.lemmas.Result.{IfOk-weaker}
use Rattle.ark_pedersen.specs.Pedersen.{window_elements}
use Rattle.ark_pedersen.proofs.DrawnLists.{length-drawn_values}
use Rattle.ark_pedersen.proofs.Iterates.{doublings-iterates}
use Rattle.ark_pedersen.proofs.crh.CRH.create_generators.Goals as goal

pub returns-clause-made : goal.returns-clause-made
returns-clause-made g c =
    let draw = g.C.AdditiveGroup.draw in
    let stream = g.R.Rng.stream c.args.rng.now in
    IfOk-weaker c.drawn_lists.result _ _ (λ lists made. (
      length-drawn_values draw _ _,
      made ∙ ap (λ make. map make (window_elements draw g.W.Window stream).0)
          (doublings-iterates g.met.C.AdditiveGroup.laws g.W.Window.WINDOW_SIZE),
    )) c.drawn_lists.ensures.made
