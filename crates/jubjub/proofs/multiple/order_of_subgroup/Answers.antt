use Rattle.std.proofs.Common.{refl}
use Rattle.jubjub.specs.Jubjub.{order}
use Rattle.jubjub.proofs.multiple.order_of_subgroup.Goals as goal

pub returns : goal.returns
unfolding order
returns c = refl
