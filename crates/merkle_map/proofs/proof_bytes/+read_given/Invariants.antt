use Rattle.merkle_map.proofs.proof_bytes.+read_given.Given as goal

abbrev pub decreases-read_given : goal.decreases-read_given
decreases-read_given l = l.count
