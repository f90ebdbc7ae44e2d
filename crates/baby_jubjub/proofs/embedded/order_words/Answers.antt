use Rattle.std.proofs.Common.{refl}
use Rattle.baby_jubjub.specs.BabyJubjub.{order}
use Rattle.baby_jubjub.proofs.embedded.order_words.Goals as goal

pub returns : goal.returns
unfolding order
returns c = refl
