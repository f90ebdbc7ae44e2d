-- What of the values of this crate is seen.
use Rattle.std.specs.Prelude.{ℕ, List, map}
use Rattle.signed_notes.specs.Notes.{SignatureParts, NoteParts}
use Rattle.signed_notes.specs.Checkpoints.{CheckpointParts}
use Rattle.signed_notes.specs.Keys.{KeyParts, Spelled, cosignature_byte, ed25519_byte}
use Rattle.signed_notes.specs.Opening.{Policy}
use Rattle.signed_notes.specs.declared.checkpoint.Checkpoint.{Checkpoint}
use Rattle.signed_notes.specs.declared.keys.Algorithm.{Algorithm}
use Rattle.signed_notes.specs.declared.keys.Algorithm.TheVariants.{CosignatureV1, Ed25519}
use Rattle.signed_notes.specs.declared.keys.Cosigner.{Cosigner}
use Rattle.signed_notes.specs.declared.keys.KeyText.{KeyText}
use Rattle.signed_notes.specs.declared.keys.Signer.{Signer}
use Rattle.signed_notes.specs.declared.keys.Verifier.{Verifier}
use Rattle.signed_notes.specs.declared.note.Signature.{Signature}
use Rattle.signed_notes.specs.declared.note.Note.{Note}
use Rattle.signed_notes.specs.declared.opening.Policy.{Policy as DeclaredPolicy}

-- the parts of a signature
abbrev pub parts : Signature → SignatureParts
parts s = record { name = s.name.now; hash = s.hash; bytes = s.bytes.items }

-- the parts of a note
abbrev pub note_parts : Note → NoteParts
note_parts note = record { text = note.text.now; signatures = map parts note.signatures.items }

-- the parts of a note of a text and its signatures
abbrev pub parts_of_note : List ℕ → List SignatureParts → NoteParts
parts_of_note text signatures = record { text = text; signatures = signatures }

-- the byte of an algorithm
abbrev pub algorithm_byte : Algorithm → ℕ
algorithm_byte Ed25519 = ed25519_byte
algorithm_byte CosignatureV1 = cosignature_byte

-- a key as it is spelled
abbrev pub key_spelled : KeyText → Spelled
key_spelled k = record { name = k.name.now; hash = k.hash.now; algorithm = k.algorithm; bytes = k.bytes }

-- the key of a verifier
abbrev pub verifier_parts : Verifier → KeyParts
verifier_parts v = record { name = v.name.now; algorithm = algorithm_byte v.algorithm; bytes = v.key }

-- a key that is made from a seed, of some algorithm
abbrev pub seed_parts : ℕ → Signer → KeyParts
seed_parts algorithm s = record { name = s.name.now; algorithm = algorithm; bytes = s.seed }

-- the key of a signer: its seed
abbrev pub signer_parts : Signer → KeyParts
signer_parts s = seed_parts ed25519_byte s

-- the key of a cosigner: its seed
abbrev pub cosigner_parts : Cosigner → KeyParts
cosigner_parts s = record { name = s.name.now; algorithm = cosignature_byte; bytes = s.seed }

-- the parts of a checkpoint
abbrev pub checkpoint_parts : Checkpoint → CheckpointParts
checkpoint_parts c = record { origin = c.origin.now; size = c.size; root = c.root; extensions = c.extensions.now }

-- the keys of a policy
abbrev pub policy_parts : DeclaredPolicy → Policy
policy_parts p = record {
  log = verifier_parts p.log;
  witnesses = map verifier_parts p.witnesses.now;
  quorum = p.quorum;
  since = p.since;
}
