use Rattle.signed_notes.proofs.CheckpointTexts.{checkpoint-whole}
use Rattle.signed_notes.proofs.laws.checkpoints_have_one_spelling.Goals as goal

pub returns : goal.returns
returns c = checkpoint-whole
