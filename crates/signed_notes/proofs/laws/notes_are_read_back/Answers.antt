use Rattle.signed_notes.proofs.WrittenNotes.{read-written}
use Rattle.signed_notes.proofs.laws.notes_are_read_back.Goals as goal

pub returns : goal.returns
returns c = read-written
