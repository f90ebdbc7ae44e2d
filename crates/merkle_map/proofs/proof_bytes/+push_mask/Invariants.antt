use Rattle.merkle_map.proofs.proof_bytes.+push_mask.Given as goal

abbrev pub decreases-push_mask : goal.decreases-push_mask
decreases-push_mask l = l.count
