use Rattle.std.proofs.Common.{ℕ, ◌%◌, List, ◌∙◌, ap}
use Rattle.std.proofs.lemmas.List.{append_assoc}
use Rattle.ark_base.specs.Digits.{number_of_bytes}
use Rattle.ed25519.specs.Edwards25519.{order}
use Rattle.sha2.specs.Sha512.{sha512}
use Rattle.ed25519.proofs.signatures.challenge_scalar.Goals as goal

pub returns : goal.returns
unfolding order
returns c =
    c.from_le_bytes_mod_order.ensures ∙ ap (λ (s : List ℕ). number_of_bytes s % order) (c.as_slice.ensures
    ∙ c.finalize.ensures _ (c.update-3.ensures _ (c.update-2.ensures _ (c.update.ensures _ c.new-hasher.ensures)))
    ∙ ap sha512 (append_assoc c.args.first.now c.args.key.now c.args.message.now))
