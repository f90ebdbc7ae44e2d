use Rattle.ark_signatures.proofs.Decrypting.{decrypted-encrypted}
use Rattle.ark_signatures.proofs.encryption.elgamal.ElGamalAsymmetricEncryptionScheme.encrypt.Goals as goal

pub returns-clause-decrypts : goal.returns-clause-decrypts
returns-clause-decrypts g c =
    λ s is_key. rw (c.add.ensures, c.mul-2.ensures, c.mul.ensures) (decrypted-encrypted g.met.C.AdditiveGroup.laws _ _ _
    _ s is_key)
