use Rattle.sha2.proofs.Facts256.{length-sha256}
use Rattle.paxidore_calls.specs.Hashing.{rfc6962_hashing, sha256_hashing}
use Rattle.paxidore_c.proofs.Lengths.{path-counted}
use Rattle.paxidore_c.proofs.trees.paxidore_path.Goals as goal

pub returns-in-1-clause-counted : goal.returns-in-1-clause-counted
returns-in-1-clause-counted c = path-counted sha256_hashing (λ leaf. length-sha256 _) (λ left right. length-sha256 _)
    c.args.leaves.now c.args.lengths.now c.args.index _ _ _ _ _ c.path_over.ensures.handed

pub returns-in-2-clause-counted : goal.returns-in-2-clause-counted
returns-in-2-clause-counted c = path-counted rfc6962_hashing (λ leaf. length-sha256 _) (λ left right. length-sha256 _)
    c.args.leaves.now c.args.lengths.now c.args.index _ _ _ _ _ c.path_over-in-2.ensures.handed
