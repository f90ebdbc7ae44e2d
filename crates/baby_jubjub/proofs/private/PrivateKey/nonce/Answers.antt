use Rattle.std.proofs.Common.{ℕ, ◌%◌, List, ◌++◌, ◌∙◌, ap}
use Rattle.ark_base.specs.Digits.{number_of_bytes, bytes_of_number}
use Rattle.baby_jubjub.specs.BabyJubjub.{order}
use Rattle.baby_jubjub.specs.Blake512.{blake512}
use Rattle.baby_jubjub.specs.Values.{value}
use Rattle.baby_jubjub.proofs.private.PrivateKey.nonce.Goals as goal

pub returns : goal.returns
unfolding order
returns c =
    c.from_le_bytes_mod_order.ensures ∙ ap (λ (s : List ℕ). number_of_bytes s % order) (c.as_slice.ensures
    ∙ c.blake512_of_64-digest.ensures
    ∙ ap blake512 (c.with_message.ensures
    ∙ ap (λ (t : List ℕ). t ++ bytes_of_number 32 (value c.args.message)) c.args.self.now.prefix_is))
