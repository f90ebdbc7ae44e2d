use Rattle.merkle_log.proofs.Answered.{answered-bound, answered-own}
use Rattle.merkle_log.proofs.Verdicts.{consistency-bound, consistency-root, consistency-own}
use Rattle.merkle_log.proofs.consistency.verify_consistency.Goals as goal

pub returns-clause-bound : goal.returns-clause-bound
returns-clause-bound g c = answered-bound _ _ (consistency-bound _ _ _ _ _ _) c.is_front.ensures

pub returns-clause-front : goal.returns-clause-front
returns-clause-front g c = answered-bound _ _ (consistency-root _ _ _ _ _ _) c.is_front.ensures

pub returns-clause-own : goal.returns-clause-own
returns-clause-own g c own = answered-own _ _ (consistency-own _ _ _ _ _ _ own) c.is_front.ensures
