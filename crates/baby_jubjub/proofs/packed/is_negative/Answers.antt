use Rattle.std.proofs.Common.{◌<◌, subst}
use Rattle.std.specs.Prelude.{IsTrue, ◌↔◌}
use Rattle.baby_jubjub.specs.Packed.{half_p}
use Rattle.baby_jubjub.proofs.PackedFacts.{sign_of_test}
use Rattle.baby_jubjub.specs.Values.{value}
use Rattle.baby_jubjub.proofs.packed.is_negative.Goals as goal

pub returns : goal.returns
returns c =
    sign_of_test c.is_below.result (value c.args.x)
    (subst (λ n. IsTrue c.is_below.result ↔ (half_p < n)) c.words.ensures c.is_below.ensures)
