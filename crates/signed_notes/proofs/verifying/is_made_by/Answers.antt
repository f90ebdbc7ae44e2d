use Rattle.signed_notes.proofs.verifying.is_made_by.Goals as goal

pub returns-in-CosignatureV1-clause-decided : goal.returns-in-CosignatureV1-clause-decided
returns-in-CosignatureV1-clause-decided c =
    rw c.in-CosignatureV1.is (rw c.deref-in-CosignatureV1.ensures.value at c.is_cosignature.ensures.decided)
