use Rattle.std.proofs.Common.{◌∙◌}
use Rattle.ark_schemes.proofs.Pieces.{blake2s_with-hasher}
use Rattle.ark_schemes.proofs.prf.blake2s.hasher.Hasher.finalize.Goals as goal

pub returns : goal.returns
returns c = λ salt personalization text held.
    c.state_bytes.ensures
    ∙ blake2s_with-hasher salt personalization text _ _ c.args.self held c.words_of.ensures c.compress.ensures
