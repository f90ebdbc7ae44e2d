use Rattle.std.proofs.Common.{◌≡◌, ◌++◌, map}
use Rattle.signed_notes.specs.Verifying.{naming}
use Rattle.signed_notes.specs.Views.{parts, verifier_parts}
use Rattle.signed_notes.proofs.cosignature.naming.Given as goal

abbrev pub invariant-signatures : goal.invariant-signatures
invariant-signatures l =
    map parts l.kept.items ++ naming (verifier_parts l.key) (map parts l.signature-iterator.rest.items)
    ≡ naming (verifier_parts l.key) (map parts l.fn.signatures.items)
