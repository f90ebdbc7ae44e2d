-- Why a consistency proof does not lead a follower from one head to another.
use Rattle.std.specs.Prelude.{◌≡◌, ◌≢◌, ◌⊎◌, ◌<◌, ℕ, false, List, [], Ok}
use Rattle.ark_paths.specs.Pair.{Digest}
use Rattle.ark_trees.specs.Rfc6962.{node_of}
use Rattle.merkle_log.specs.Verdict.{consistency_verdict}
use Rattle.log_tiles.specs.declared.by_proof.ProofFault.{ProofFault}
use Rattle.log_tiles.specs.declared.by_proof.ProofFault.TheVariants.{Fork, Memory, Path, Size}
use Rattle.log_tiles.specs.declared.by_proof.Unshown.{Unshown}
use Rattle.log_tiles.specs.declared.by_proof.Unshown.TheVariants.{File, Proof}
use Rattle.log_tiles.specs.declared.following.Head.{Head}

-- A proof is refused: it is not accepted, or it is not empty and the old log has no entry.
abbrev pub IsNotLed : Head → Head → List Digest → Type 0
IsNotLed old new path = ((old.size ≡ 0) × (path ≢ []))
    ⊎ ((0 < old.size) × (consistency_verdict node_of old.size old.root new.size new.root path ≡ Ok false))

-- Why a proof that is said to be from an old size does not lead from an old head to a new one: the first that applies.
abbrev pub IsProofFault : Head → ℕ → Head → List Digest → ProofFault → Type 0
IsProofFault old old_size new path Size = old.size ≢ old_size
IsProofFault old old_size new path Fork = (old.size ≡ old_size) × (new.size ≡ old.size) × (new.root ≢ old.root)
IsProofFault old old_size new path Path =
    (old.size ≡ old_size) × (new.size ≡ old.size → new.root ≡ old.root) × IsNotLed old new path
IsProofFault old old_size new path Memory = Unit {0}

-- Why a follower did not move on from a head by a proof; or as its own file refused.
abbrev pub IsUnshown : {W : Type 0} → Head → ℕ → Head → List Digest → Unshown W → Type 0
IsUnshown old old_size new path (Proof held why) = (held ≡ old) × IsProofFault old old_size new path why
IsUnshown old old_size new path (File refusal) = Unit {0}

-- The proof does not lead to the new head.
abbrev pub IsUnled : {W : Type 0} → Unshown W → Type 0
IsUnled (Proof held why) = Unit {0}
IsUnled (File refusal) = ⊥
