use Rattle.kept_map.proofs.root.+hash_at.Given as goal

abbrev pub decreases-hash_at : goal.decreases-hash_at
decreases-hash_at g l = l.count
