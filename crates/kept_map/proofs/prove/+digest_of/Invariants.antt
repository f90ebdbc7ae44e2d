use Rattle.kept_map.proofs.prove.+digest_of.Given as goal

abbrev pub decreases-digest_of : goal.decreases-digest_of
decreases-digest_of g l = l.count
