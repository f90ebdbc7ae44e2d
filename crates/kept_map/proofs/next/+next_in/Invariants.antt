use Rattle.kept_map.proofs.next.+next_in.Given as goal

abbrev pub decreases-next_in : goal.decreases-next_in
decreases-next_in l = l.count
