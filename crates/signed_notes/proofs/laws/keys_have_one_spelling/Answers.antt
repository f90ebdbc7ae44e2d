use Rattle.signed_notes.proofs.KeyTexts.{key-whole}
use Rattle.signed_notes.proofs.laws.keys_have_one_spelling.Goals as goal

pub returns : goal.returns
returns c = key-whole
