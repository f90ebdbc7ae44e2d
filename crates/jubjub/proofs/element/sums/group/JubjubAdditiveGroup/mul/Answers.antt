use Rattle.std.proofs.Common.{◌∙◌, ap}
use Rattle.ark_groups.specs.Group.{times}
use Rattle.jubjub.specs.Elements.{jubjub}
use Rattle.jubjub.proofs.element.sums.group.JubjubAdditiveGroup.mul.Goals as goal

pub returns : goal.returns
returns c = c.mul.ensures.group ∙ ap (λ n. times jubjub n c.args.self) c.words.ensures
