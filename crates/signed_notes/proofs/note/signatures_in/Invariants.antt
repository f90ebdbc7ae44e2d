use Rattle.std.proofs.Common.{◌≡◌, map, length}
use Rattle.signed_notes.specs.Cutting.{lines_in}
use Rattle.signed_notes.specs.Reading.{signatures_in}
use Rattle.signed_notes.specs.Views.{parts}
use Rattle.signed_notes.proofs.Signatures.{behind}
use Rattle.signed_notes.proofs.note.signatures_in.Given as goal

abbrev pub invariant-lines : goal.invariant-lines
invariant-lines l =
    signatures_in (lines_in l.bytes) ≡ behind (map parts l.signatures.items) (signatures_in (lines_in l.rest))

abbrev pub decreases-lines : goal.decreases-lines
decreases-lines l = length l.rest
