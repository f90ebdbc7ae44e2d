use Rattle.merkle_map.proofs.proof_bytes.+bits_of.Given as goal

abbrev pub decreases-bits_of : goal.decreases-bits_of
decreases-bits_of l = l.count
