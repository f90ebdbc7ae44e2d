-- What a client of a log takes whose checkpoints are signed.
use Rattle.std.specs.Prelude.{◌≡◌, ℕ, List}
use Rattle.ark_paths.specs.Pair.{Digest}
use Rattle.examples.specs.declared.signed_checkpoints.Stays.{Stays}
use Rattle.examples.specs.declared.signed_checkpoints.Stays.TheVariants.{Note, Proof}
use Rattle.log_checkpoints.specs.Witnessing.{head_of}
use Rattle.log_tiles.specs.Led.{IsProofFault}
use Rattle.log_tiles.specs.declared.following.Head.{Head}
use Rattle.signed_notes.specs.Checkpoints.{CheckpointParts}
use Rattle.signed_notes.specs.Opening.{IsClosed, IsOpened, Policy}

-- The note is a checkpoint of this head, of an origin, signed as a policy asks.
pub record IsSignedHead (policy : Policy) (origin note : List ℕ) (head : Head) : Type 0 where
  pub stated : CheckpointParts
  pub opened : IsOpened policy origin note stated
  pub head_is : head ≡ head_of stated

-- Why a client stays at a head: the note is not accepted, or the proof does not lead to its head.
abbrev pub IsWhyStays : Policy → List ℕ → List ℕ → Head → List Digest → Stays → Type 0
IsWhyStays policy origin note held proof (Note fault) = IsClosed policy origin note fault
IsWhyStays policy origin note held proof (Proof why) =
    (head : Head) × IsSignedHead policy origin note head × IsProofFault held held.size head proof why
