-- Which signatures of a note are by known keys.
use Rattle.std.specs.Prelude.{◌≡◌, ◌⊎◌, ℕ, ◌==◌, ◌++◌, ◌&&◌, Bool, true, false, List, [], ◌∷◌, map, All, Result, Ok, Err}
use Rattle.std.specs.Bool.{MatchBool}
use Rattle.std.specs.List.{filter, list_any}
use Rattle.std.specs.Str.{bytes_eq}
use Rattle.ark_base.specs.Outcome.{◌>>=◌}
use Rattle.ed25519.specs.Signatures.{IsSignature, key_of, signature_of}
use Rattle.signed_notes.specs.Keys.{KeyParts, cosignature_byte, ed25519_byte, key_hash}
use Rattle.signed_notes.specs.Checkpoints.{CheckpointParts, read_checkpoint, write_checkpoint}
use Rattle.signed_notes.specs.Cosignatures.{IsCosignature, cosignature_of}
use Rattle.signed_notes.specs.Notes.{SignatureParts, NoteParts}
use Rattle.signed_notes.specs.Reading.{read_note}
use Rattle.signed_notes.specs.Writing.{write_note}
use Rattle.signed_notes.specs.declared.fault.Fault.{Fault}
use Rattle.signed_notes.specs.declared.fault.Fault.TheVariants.{BadSignature, Memory, UnknownKey}

-- the hash of a verifier's key
abbrev pub hash_of : KeyParts → List ℕ
hash_of key = key_hash key.name key.algorithm key.bytes

-- whether a signature names a key: by its name and its hash
abbrev pub is_named : KeyParts → SignatureParts → Bool
is_named key s = bytes_eq s.name key.name && bytes_eq s.hash (hash_of key)

-- the signature is one of a text by a key: of the key's algorithm
abbrev pub IsMadeBy : KeyParts → List ℕ → SignatureParts → Type 0
IsMadeBy key text s = MatchBool (key.algorithm == cosignature_byte)
    (IsCosignature key.bytes text s.bytes) (IsSignature key.bytes text s.bytes)

-- where a signature names a key, it is one by this key
abbrev pub IsTrueOf : KeyParts → List ℕ → SignatureParts → Type 0
IsTrueOf key text s = is_named key s ≡ true → IsMadeBy key text s

-- each signature that names a known key is one by this key
abbrev pub AreTrue : List KeyParts → NoteParts → Type 0
AreTrue known note = All (λ key. All (IsTrueOf key note.text) note.signatures) known

-- of each known key, whether a signature names it
abbrev pub accepted_by : List KeyParts → List SignatureParts → List Bool
accepted_by known signatures = map (λ key. list_any (is_named key) signatures) known

-- some test is true
abbrev pub is_any : List Bool → Bool
is_any tests = list_any (λ test. test) tests

-- why a note is not accepted that was read
abbrev pub IsRejected : List KeyParts → NoteParts → Fault → Type 0
IsRejected known note fault =
    ((fault ≡ BadSignature) × (AreTrue known note → ⊥))
    ⊎ ((fault ≡ UnknownKey) × (is_any (accepted_by known note.signatures) ≡ false))

-- why there is no answer of whether a note is signed
abbrev pub IsWhy : List KeyParts → List ℕ → Fault → Type 0
IsWhy known bytes fault = (fault ≡ Memory) ⊎ (read_note bytes ≡ Err fault)
    ⊎ ((note : NoteParts) × (read_note bytes ≡ Ok note) × IsRejected known note fault)

-- ---- signing

-- the signature of a text by a signer's key
abbrev pub signed_by : List ℕ → KeyParts → SignatureParts
signed_by text key = record {
  name = key.name;
  hash = key_hash key.name ed25519_byte (key_of key.bytes);
  bytes = signature_of key.bytes text;
}

-- the note of a text that signers sign
abbrev pub sign_note : List ℕ → List KeyParts → Result (List ℕ) Fault
sign_note text keys = write_note (record { text = text; signatures = map (signed_by text) keys })

-- the cosignature of a text at a time by a witness's key
abbrev pub cosigned_by : List ℕ → ℕ → KeyParts → SignatureParts
cosigned_by text time key = record {
  name = key.name;
  hash = key_hash key.name cosignature_byte (key_of key.bytes);
  bytes = cosignature_of key.bytes time text;
}

-- the signatures that name a key
abbrev pub naming : KeyParts → List SignatureParts → List SignatureParts
naming key signatures = filter (is_named key) signatures

-- the note of a checkpoint with its log's signatures and a cosignature behind them: no other line of the note stays
abbrev pub cosign_read : KeyParts → ℕ → KeyParts → NoteParts → Result (List ℕ) Fault
cosign_read log time key note = read_checkpoint note.text >>= λ _. write_note (record {
  text = note.text;
  signatures = naming log note.signatures ++ (cosigned_by note.text time key ∷ []);
})

-- the same of bytes
abbrev pub cosign : KeyParts → ℕ → KeyParts → List ℕ → Result (List ℕ) Fault
cosign log time key bytes = read_note bytes >>= cosign_read log time key

-- the note of a checkpoint that signers sign
abbrev pub sign_checkpoint : CheckpointParts → List KeyParts → Result (List ℕ) Fault
sign_checkpoint c keys = write_checkpoint c >>= λ text. sign_note text keys
