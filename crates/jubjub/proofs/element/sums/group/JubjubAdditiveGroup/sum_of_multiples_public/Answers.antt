use Rattle.std.proofs.Common.{◌∙◌, ap₂}
use Rattle.ark_groups.specs.Group.{times}
use Rattle.jubjub.specs.Elements.{jubjub}
use Rattle.jubjub.proofs.element.sums.group.JubjubAdditiveGroup.sum_of_multiples_public.Goals as goal

pub returns : goal.returns
returns c = c.sum_of_multiples_public.ensures.group
    ∙ ap₂ (λ m n. jubjub.plus (times jubjub m c.args.self) (times jubjub n c.args.other)) c.words.ensures
    c.words-2.ensures
