use Rattle.std.proofs.Common.{sym, ◌∙◌}
use Rattle.jubjub.specs.Laws.Group.{modulus_is_order}
use Rattle.jubjub.proofs.element.sums.laws.JubjubPrimeOrderGroup.order.Goals as goal

pub returns : goal.returns
returns c = c.order_of_subgroup.ensures ∙ sym modulus_is_order
