-- Messages behind a byte.
use Rattle.std.specs.Prelude.{ℕ, ◌+◌, ◌≤◌, List, ◌∷◌, ◌++◌, Option, None, Some, length}
use Rattle.std.specs.Borrow.{Bor}
use Rattle.sha2.specs.Sha256.{digest_bytes, sha256}

-- a message behind a byte, if there is one
abbrev pub behind : Option ℕ → List ℕ → List ℕ
behind None message = message
behind (Some byte) message = byte ∷ message

-- the SHA-256 of such a message
abbrev pub hash_behind : Option ℕ → Bor (List ℕ) → List ℕ
hash_behind prefix message = sha256 (behind prefix message.now)

-- the SHA-256 of left followed by right, behind a byte, if there is one
abbrev pub pair_behind : Option ℕ → Bor (List ℕ) × Bor (List ℕ) → List ℕ
pair_behind prefix couple = sha256 (behind prefix (couple.0.now ++ couple.1.now))

-- the SHA-256 of a message behind a head
abbrev pub headed_hash : List ℕ → Bor (List ℕ) → List ℕ
headed_hash head message = sha256 (head ++ message.now)

-- behind the head, the message makes one block with its padding
abbrev pub IsShort : List ℕ → Bor (List ℕ) → Type 0
IsShort head message = length head + length message.now ≤ 55

-- behind the head, the message makes two blocks with its padding
abbrev pub IsLong : List ℕ → Bor (List ℕ) → Type 0
IsLong head message = (56 ≤ length head + length message.now) × (length head + length message.now ≤ 119)

-- the bytes of a state, which are the digest
abbrev pub state_digest : List ℕ → List ℕ
state_digest state = digest_bytes state 8
