use Rattle.std.proofs.Common.{◌≡◌, map, take}
use Rattle.signed_notes.specs.Verifying.{accepted_by, AreTrue}
use Rattle.signed_notes.specs.Views.{note_parts, verifier_parts}
use Rattle.signed_notes.proofs.verifying.accepted.Given as goal

abbrev pub invariant-loop-verifier : goal.invariant-loop-verifier
invariant-loop-verifier l = record {
  accepted : l.accepted.items
      ≡ accepted_by (map verifier_parts (take l.verifier-index l.known)) (note_parts l.note).signatures;
  signed : AreTrue (map verifier_parts (take l.verifier-index l.known)) (note_parts l.note);
}
