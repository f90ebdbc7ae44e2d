use Rattle.jubjub.proofs.Totals.{element_inside, total_is}
use Rattle.jubjub.proofs.element.sums.group.JubjubAdditiveGroup.to_sum.Goals as goal

pub of-requires-clause-point : goal.of-requires-clause-point
of-requires-clause-point c = element_inside c.lifted.result c.args.self c.lifted.ensures

pub returns : goal.returns
returns c = total_is c.of.result c.lifted.result c.args.self c.of.ensures c.lifted.ensures
