use Rattle.test_support.proofs.trees.+place.Given as goal

abbrev pub decreases-place : goal.decreases-place
decreases-place g l = l.m
