use Rattle.merkle_log.proofs.multi_making.+digest_at.Given as goal

abbrev pub decreases-digest_at : goal.decreases-digest_at
decreases-digest_at g l = l.level
