use Rattle.merkle_log.proofs.insertion.+hash_over.Given as goal

abbrev pub decreases-hash_over : goal.decreases-hash_over
decreases-hash_over g l = l.level
