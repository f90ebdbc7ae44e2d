use Rattle.signed_notes.proofs.WrittenNotes.{note-of-read, note-written}
use Rattle.signed_notes.proofs.laws.notes_are_written.Goals as goal

pub returns-clause-written : goal.returns-clause-written
returns-clause-written c = note-written

pub returns-clause-read : goal.returns-clause-read
returns-clause-read c = note-of-read
