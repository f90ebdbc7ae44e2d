use Rattle.std.proofs.Common.{◌≡◌, map, take}
use Rattle.signed_notes.specs.Counting.{keys_once, named_keys}
use Rattle.signed_notes.specs.Verifying.{AreTrue}
use Rattle.signed_notes.specs.Views.{note_parts, verifier_parts}
use Rattle.signed_notes.proofs.counting.signing_keys.Given as goal

abbrev pub invariant-loop-verifier : goal.invariant-loop-verifier
invariant-loop-verifier l = record {
  keys : map verifier_parts l.keys.items
      ≡ keys_once (named_keys (map verifier_parts (take l.verifier-index l.known)) (note_parts l.note).signatures);
  signed : AreTrue (map verifier_parts (take l.verifier-index l.known)) (note_parts l.note);
}
