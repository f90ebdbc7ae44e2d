use Rattle.std.proofs.Common.{[], refl, ◌∙◌}
use Rattle.ark_schemes.proofs.Pieces.{hasher_by}
use Rattle.ark_schemes.proofs.Texts.{state_after-none}
use Rattle.ark_schemes.proofs.prf.blake2s.hasher.Hasher.new.Goals as goal

pub returns : goal.returns
returns c = hasher_by c.args.salt.now c.args.personalization.now [] _ (c.first_state.ensures ∙ state_after-none _ _)
    refl refl
