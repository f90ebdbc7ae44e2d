use Rattle.merkle_log.proofs.multi_parts.+count_around.Given as goal

abbrev pub decreases-count_around : goal.decreases-count_around
decreases-count_around l = l.level
