use Rattle.std.proofs.lemmas.Result.{IfOk-weaker}
use Rattle.ark_pedersen.proofs.DrawnLists.{length-drawn_values}
use Rattle.ark_bowe_hopwood.proofs.crh.CRH.create_generators.Goals as goal

pub returns-clause-made : goal.returns-clause-made
returns-clause-made g c =
    IfOk-weaker c.drawn_lists.result _ _ (λ lists made. (length-drawn_values g.G.AdditiveGroup.draw _ _, made))
    c.drawn_lists.ensures.made
