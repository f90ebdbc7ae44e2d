use Rattle.signed_notes.proofs.Listed.{list-found}
use Rattle.signed_notes.proofs.laws.listed_logs_are_found.Goals as goal

pub returns : goal.returns
returns c = list-found
