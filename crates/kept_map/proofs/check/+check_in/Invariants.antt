use Rattle.kept_map.proofs.check.+check_in.Given as goal

abbrev pub decreases-check_in : goal.decreases-check_in
decreases-check_in g l = l.count
