-- What an accepted consistency proof shows of two heads.
use Rattle.std.proofs.Common.{◌≡◌, ℕ, true, List, Ok}
use Rattle.ark_paths.specs.Pair.{Digest}
use Rattle.ark_trees.specs.Rfc6962.{node_of}
use Rattle.merkle_log.specs.Verdict.{consistency_verdict}
use Rattle.merkle_log.proofs.Verdicts.{consistency-bound}
use Rattle.log_tiles.specs.Following.{IsShown}
use Rattle.log_tiles.specs.declared.following.Head.{Head}

pub shown : (other : Digest) (old new : Head) (size : ℕ) (root : Digest) (path : List Digest) → new.size ≡ size
    → new.root ≡ root → consistency_verdict node_of old.size other size root path ≡ Ok true → IsShown other old new
shown other old new size root path long same is =
    let own : consistency_verdict node_of old.size other new.size new.root path ≡ Ok true = rw (long, same) is in
    record { path = path; accepted = own; bound = consistency-bound _ _ _ _ _ _ own }
