use Rattle.kept_map.proofs.next.+first_in.Given as goal

abbrev pub decreases-first_in : goal.decreases-first_in
decreases-first_in l = l.count
