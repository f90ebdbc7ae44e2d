use Rattle.signed_notes.proofs.CheckpointTexts.{checkpoint-read, checkpoint-written}
use Rattle.signed_notes.proofs.laws.checkpoints_are_read_back.Goals as goal

pub returns-clause-written : goal.returns-clause-written
returns-clause-written c = checkpoint-written

pub returns-clause-read : goal.returns-clause-read
returns-clause-read c = checkpoint-read
