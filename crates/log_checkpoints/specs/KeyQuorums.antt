-- Clients that trust checkpoints which enough keys of witnesses signed.
use Rattle.std.specs.Prelude.{◌≡◌, ◌≤◌, ℕ, true, List, All, Contains, length, Ok}
use Rattle.log_checkpoints.specs.Witnessing.{head_of}
use Rattle.log_tiles.specs.Histories.{AreOfOneLog}
use Rattle.log_tiles.specs.declared.following.Head.{Head}
use Rattle.signed_notes.specs.Checkpoints.{CheckpointParts}
use Rattle.signed_notes.specs.Counting.{lists_key, AreOtherKeys}
use Rattle.signed_notes.specs.Keys.{KeyParts}
use Rattle.signed_notes.specs.Notes.{SignatureParts}
use Rattle.signed_notes.specs.Opening.{checkpoint_by, Policy}
use Rattle.signed_notes.specs.Verifying.{IsMadeBy}

-- Each checkpoint of an origin of which there is a signature by a key states one of these heads.
abbrev pub SignsOnly : List ℕ → KeyParts → List Head → Type 0
SignsOnly origin key heads = (text : List ℕ) (s : SignatureParts) (c : CheckpointParts) → IsMadeBy key text s
    → checkpoint_by origin text ≡ Ok c → Contains heads (head_of c)

-- A key is that of an honest witness: it signs of an origin only heads that a follower accepted.
pub record IsHonest (origin : List ℕ) (key : KeyParts) : Type 0 where
  pub heads : List Head
  pub accepted : AreOfOneLog heads
  pub only : SignsOnly origin key heads

-- As many keys of a policy's witnesses as it asks for, no two of which are one.
pub record IsQuorum (p : Policy) (keys : List KeyParts) : Type 0 where
  pub apart : AreOtherKeys keys
  pub own : All (Contains p.witnesses) keys
  pub enough : p.quorum ≤ length keys

-- Each quorum of one policy and each of another have the key of an honest witness in common.
abbrev pub QuorumsMeet : List ℕ → Policy → Policy → Type 0
QuorumsMeet origin p q = (first second : List KeyParts) → IsQuorum p first → IsQuorum q second
    → (key : KeyParts) × IsHonest origin key × (lists_key first key ≡ true) × (lists_key second key ≡ true)
