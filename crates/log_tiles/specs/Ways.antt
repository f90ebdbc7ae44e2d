-- How accepted consistency proofs lead from one head of a log to another, and what they show of both logs.
use Rattle.std.specs.Prelude.{◌≡◌, ◌⊎◌, ◌≤◌, ◌-◌, ℕ, true, List, [], ◌∷◌, length, take, Ok}
use Rattle.sha2.specs.Sha256.{sha256}
use Rattle.ark_paths.specs.Pair.{Digest}
use Rattle.ark_trees.specs.Rfc6962.{node_of}
use Rattle.merkle_log.specs.Collision.{TreesCollideAt, WalkCollides}
use Rattle.merkle_log.specs.Log.{merkle_tree_hash}
use Rattle.merkle_log.specs.Verdict.{consistency_verdict}
use Rattle.log_tiles.specs.declared.following.Head.{Head}

-- a head that was left, and the proof by which
pub record Stage : Type 0 where
  pub from : Head
  pub path : List Digest

-- A consistency proof of two heads is accepted.
abbrev pub IsAcceptedFrom : Head → Head → List Digest → Type 0
IsAcceptedFrom old new path = consistency_verdict node_of old.size old.root new.size new.root path ≡ Ok true

-- Accepted proofs lead from one head to another, the last of them first.
abbrev pub LeadsBy : Head → Head → List Stage → Type 0
LeadsBy old new [] = old ≡ new
LeadsBy old new (stage ∷ earlier) = IsAcceptedFrom stage.from new stage.path × LeadsBy old stage.from earlier

-- The list of digests has the head's size and root.
abbrev pub IsLogOf : Head → List Digest → Type 0
IsLogOf head digests = (length digests ≡ head.size) × (merkle_tree_hash node_of (sha256 []) digests ≡ Ok head.root)

-- A proof on the way to a head has a pair that collides with one of a list's tree: the list that the head is of, or, of
-- an earlier proof, its front of the size that the proof leads to.
abbrev pub WayCollides : Head → List Stage → List Digest → Type 0
WayCollides new [] digests = ⊥
WayCollides new (stage ∷ earlier) digests =
    WalkCollides node_of (Ok (sha256 [])) digests (stage.from.size - 1) (new.size - 1) stage.from.root stage.path
    ⊎ WayCollides stage.from earlier (take stage.from.size digests)

-- Each list of the new head begins with a list of the old one, and each list of the old one is that front: or two pairs
-- collide, of a proof on the way and the list's tree, or of both lists' trees.
pub record IsFrontOf (old new : Head) (way : List Stage) : Type 0 where
  pub no_larger : old.size ≤ new.size
  pub front : (digests : List Digest) → IsLogOf new digests
      → IsLogOf old (take old.size digests) ⊎ WayCollides new way digests
  pub only : (old_digests digests : List Digest) → IsLogOf old old_digests → IsLogOf new digests
      → (old_digests ≡ take old.size digests) ⊎ (WayCollides new way digests
      ⊎ ((level place : ℕ) × TreesCollideAt node_of (Ok (sha256 [])) old_digests (take old.size digests) level place))

-- The earlier log has no entry, or accepted proofs lead from it to the later one, which so begins with it.
abbrev pub IsBefore : Head → Head → Type 0
IsBefore old new = (old.size ≡ 0) ⊎ ((way : List Stage) × LeadsBy old new way × IsFrontOf old new way)
