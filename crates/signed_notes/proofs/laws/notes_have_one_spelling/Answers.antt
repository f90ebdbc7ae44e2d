use Rattle.signed_notes.proofs.ReadBack.{read-whole}
use Rattle.signed_notes.proofs.laws.notes_have_one_spelling.Goals as goal

pub returns : goal.returns
returns c = read-whole
