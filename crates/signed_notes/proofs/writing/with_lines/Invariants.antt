use Rattle.std.proofs.Common.{◌≡◌, map, drop}
use Rattle.signed_notes.specs.Writing.{in_front_of, written_lines}
use Rattle.signed_notes.specs.Views.{parts}
use Rattle.signed_notes.proofs.writing.with_lines.Given as goal

abbrev pub invariant-loop-signature : goal.invariant-loop-signature
invariant-loop-signature l =
    in_front_of l.fn.front.items (written_lines (map parts l.signatures))
    ≡ in_front_of l.out.items (written_lines (map parts (drop l.signature-index l.signatures)))
