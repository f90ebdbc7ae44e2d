use Rattle.kept_map.proofs.many.+write_shown.Given as goal

abbrev pub decreases-write_shown : goal.decreases-write_shown
decreases-write_shown g l = l.count
