use Rattle.merkle_log.proofs.multi_check.+hash_known.Given as goal

abbrev pub decreases-hash_known : goal.decreases-hash_known
decreases-hash_known g l = l.level
