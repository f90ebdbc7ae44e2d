use Rattle.std.proofs.Common.{◌≡◌, map, take}
use Rattle.signed_notes.specs.Verifying.{signed_by}
use Rattle.signed_notes.specs.Views.{parts, signer_parts}
use Rattle.signed_notes.proofs.verifying.sign_note.Given as goal

abbrev pub invariant-loop-signer : goal.invariant-loop-signer
invariant-loop-signer l =
    map parts l.signatures.items ≡ map (signed_by l.text) (map signer_parts (take l.signer-index l.signers))
