use Rattle.log_checkpoints.proofs.OneReading.{one-reading}
use Rattle.log_checkpoints.proofs.laws.receipts_have_one_reading.Goals as goal

pub returns : goal.returns
returns c = one-reading
