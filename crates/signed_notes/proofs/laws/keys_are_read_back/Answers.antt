use Rattle.signed_notes.proofs.KeyTexts.{key-read}
use Rattle.signed_notes.proofs.laws.keys_are_read_back.Goals as goal

pub returns : goal.returns
returns c = key-read
