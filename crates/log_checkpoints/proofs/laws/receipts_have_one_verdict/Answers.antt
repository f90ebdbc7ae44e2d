use Rattle.log_checkpoints.proofs.OneReading.{never-elsewhere, never-unaccepted, one-head}
use Rattle.log_checkpoints.proofs.laws.receipts_have_one_verdict.Goals as goal

pub returns-clause-one : goal.returns-clause-one
returns-clause-one c = one-head

pub returns-clause-elsewhere : goal.returns-clause-elsewhere
returns-clause-elsewhere c = never-elsewhere

pub returns-clause-refused : goal.returns-clause-refused
returns-clause-refused c = never-unaccepted
