use Rattle.kept_map.proofs.between.+write_between.Given as goal

abbrev pub decreases-write_between : goal.decreases-write_between
decreases-write_between g l = l.count
