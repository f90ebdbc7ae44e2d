use Rattle.kept_map.proofs.prove.+climb_down.Given as goal

abbrev pub decreases-climb_down : goal.decreases-climb_down
decreases-climb_down g l = l.count
