use Rattle.paxidore_calls.proofs.Answering.{zero-says}
use Rattle.paxidore_c.proofs.log.paxidore_log_verify_consistency.Goals as goal

pub returns-clause-shows : goal.returns-clause-shows
returns-clause-shows c = zero-says c.verify_consistency_bytes.result c.verify_consistency_bytes.ensures.bound
    c.verdict_code.result c.verdict_code.ensures
