use Rattle.merkle_log.proofs.multi_making.+put_around.Given as goal

abbrev pub decreases-put_around : goal.decreases-put_around
decreases-put_around g l = l.level
