-- Keys of notes as text: of verifiers `NAME+HASH+KEY`, of signers the same behind `PRIVATE+KEY+`. HASH is eight digits
-- in hexadecimal, KEY the Base64 of the algorithm's byte and of the key, or of the seed that it is made from.
use Rattle.std.specs.Prelude.{◌≡◌, ℕ, ◌==◌, ◌||◌, Bool, true, List, ◌∷◌, ◌++◌, codes, if◌then◌else◌, length, take, drop, get_or, Result, Ok}
use Rattle.std.specs.Str.{bytes_eq}
use Rattle.ark_base.specs.Outcome.{◌>>=◌}
use Rattle.base64.specs.GeneralPurpose.{encode_of}
use Rattle.base64.specs.Engines.{standard}
use Rattle.ed25519.specs.Signatures.{key_of}
use Rattle.hex.specs.Hex.{encode_lower}
use Rattle.sha2.specs.Sha256.{sha256}
use Rattle.signed_notes.specs.Cutting.{cut}
use Rattle.signed_notes.specs.Faults.{only_where, or_fault}
use Rattle.signed_notes.specs.Notes.{is_name}
use Rattle.signed_notes.specs.Reading.{bytes_in}
use Rattle.signed_notes.specs.declared.fault.Fault.{Fault}
use Rattle.signed_notes.specs.declared.fault.Fault.TheVariants.{Algorithm, Ecdsa, Key, KeyHash, Name, TreeHead}

-- a key: its name, the byte of its algorithm, and the 32 bytes of the key or of the seed that it is made from
pub record KeyParts : Type 0 where
  pub name : List ℕ
  pub algorithm : ℕ
  pub bytes : List ℕ

-- Ed25519's byte
abbrev pub ed25519_byte : ℕ
ed25519_byte = 1

-- the hash of a key: four bytes of SHA-256 of the name, a line feed, the algorithm's byte and the key
abbrev pub key_hash : List ℕ → ℕ → List ℕ → List ℕ
key_hash name algorithm key = take 4 (sha256 (name ++ (10 ∷ algorithm ∷ key)))

-- a key as text; `public` makes of its 32 bytes those that are hashed
abbrev pub key_text : (List ℕ → List ℕ) → KeyParts → List ℕ
key_text public k =
    k.name ++ (43 ∷ (encode_lower (key_hash k.name k.algorithm (public k.bytes))
    ++ (43 ∷ encode_of standard (k.algorithm ∷ k.bytes))))

-- the key of a verifier is hashed as it stands
abbrev pub as_it_stands : List ℕ → List ℕ
as_it_stands key = key

-- how the key of a signer begins
abbrev pub private : List ℕ
private = codes "PRIVATE+KEY+"

-- what may be a key
pub record IsNoteKey (is_algorithm : ℕ → Bool) (k : KeyParts) : Type 0 where
  pub name_is : is_name k.name ≡ true
  pub algorithm_is : is_algorithm k.algorithm ≡ true
  pub long : length k.bytes ≡ 32

-- ---- what a text says, from left to right: a key, or the first fault

-- a key as it is spelled: its name, the digits of its hash, the algorithm's byte, and its 32 bytes
pub record Spelled : Type 0 where
  pub name : List ℕ
  pub hash : List ℕ
  pub algorithm : ℕ
  pub bytes : List ℕ

-- why a key is refused whose algorithm is not known, or not asked for: two others of notes have names
abbrev pub algorithm_fault : Fault → ℕ → Fault
algorithm_fault other byte = if byte == 2 then Ecdsa else if byte == 5 then TreeHead else other

-- the key of a name, the digits of its hash, and the bytes that Base64 spelled
abbrev pub spelled_by : List ℕ → List ℕ → List ℕ → Result Spelled Fault
spelled_by name hash bytes = only_where (length bytes == 33) (algorithm_fault Key (get_or bytes 0 0))
    (Ok (record { name = name; hash = hash; algorithm = get_or bytes 0 0; bytes = drop 1 bytes }))

-- the key of a name and of a word of Base64, by the digits of its hash
abbrev pub spelled_word : List ℕ → List ℕ → List ℕ → Result Spelled Fault
spelled_word name hash word = bytes_in word >>= spelled_by name hash

-- the key of a name, and of two parts behind it
abbrev pub spelled_behind : List ℕ → List ℕ × List ℕ → Result Spelled Fault
spelled_behind name parts = only_where (is_name name) Name (spelled_word name parts.0 parts.1)

-- the key of a name and of what stands behind the plus sign that ends it
abbrev pub spelled_from : List ℕ × List ℕ → Result Spelled Fault
spelled_from parts = or_fault (cut 43 parts.1) Key >>= spelled_behind parts.0

-- the key that a text spells
abbrev pub spelled_in : List ℕ → Result Spelled Fault
spelled_in text = or_fault (cut 43 text) Key >>= spelled_from

-- a key of one of some algorithms, whose hash is its own
abbrev pub checked : (ℕ → Bool) → (List ℕ → List ℕ) → Spelled → Result KeyParts Fault
checked is_algorithm public s =
    only_where (is_algorithm s.algorithm) (algorithm_fault Algorithm s.algorithm)
    (only_where (bytes_eq s.hash (encode_lower (key_hash s.name s.algorithm (public s.bytes)))) KeyHash
    (Ok (record { name = s.name; algorithm = s.algorithm; bytes = s.bytes })))

-- the key that a text says
abbrev pub read_key : (ℕ → Bool) → (List ℕ → List ℕ) → List ℕ → Result KeyParts Fault
read_key is_algorithm public text = spelled_in text >>= checked is_algorithm public

-- the key that a text says behind `PRIVATE+KEY+`
abbrev pub read_private : (ℕ → Bool) → (List ℕ → List ℕ) → List ℕ → Result KeyParts Fault
read_private is_algorithm public text =
    only_where (bytes_eq (take 12 text) private) Key (read_key is_algorithm public (drop 12 text))

-- ---- the text of a key, or the first fault

-- the text of a key behind other bytes
abbrev pub write_key : List ℕ → (List ℕ → List ℕ) → KeyParts → Result (List ℕ) Fault
write_key front public k = only_where (is_name k.name) Name (Ok (front ++ key_text public k))

-- the byte of cosignatures
abbrev pub cosignature_byte : ℕ
cosignature_byte = 4

-- the algorithms of verifiers
abbrev pub is_known : ℕ → Bool
is_known byte = byte == ed25519_byte || byte == cosignature_byte

-- one algorithm alone
abbrev pub is_byte : ℕ → ℕ → Bool
is_byte algorithm byte = byte == algorithm

-- the key by which the signatures of a signer are checked
abbrev pub public_parts : KeyParts → KeyParts
public_parts k = record { name = k.name; algorithm = k.algorithm; bytes = key_of k.bytes }

-- a key of a name, an algorithm and bytes
abbrev pub key_parts : List ℕ → ℕ → List ℕ → KeyParts
key_parts name algorithm bytes = record { name = name; algorithm = algorithm; bytes = bytes }
