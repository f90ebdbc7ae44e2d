use Rattle.std.proofs.Common.{◌≡◌, All, map, take}
use Rattle.std.specs.List.{list_any}
use Rattle.signed_notes.specs.Verifying.{is_named, IsTrueOf}
use Rattle.signed_notes.specs.Views.{parts, verifier_parts}
use Rattle.signed_notes.proofs.verifying.any_by.Given as goal

abbrev pub invariant-loop-signature : goal.invariant-loop-signature
invariant-loop-signature l = record {
  any : l.any ≡ list_any (is_named (verifier_parts l.verifier)) (map parts (take l.signature-index l.signatures));
  signed : All (IsTrueOf (verifier_parts l.verifier) l.text) (map parts (take l.signature-index l.signatures));
}
