-- Ed25519 (RFC 8032, 5.1), over numbers: pure, with SHA-512 and no context.
use Rattle.std.specs.Prelude.{◌≡◌, ℕ, ◌+◌, ◌*◌, ◌/◌, ◌%◌, ◌^◌, ◌<◌, List, ◌++◌, take, drop}
use Rattle.sha2.specs.Sha512.{sha512}
use Rattle.ark_base.specs.Digits.{number_of_bytes, bytes_of_number}
use Rattle.ark_groups.specs.Group.{times}
use Rattle.edwards.specs.Edwards.{Coordinates}
use Rattle.ed25519.specs.Edwards25519.{order, curve, base_point, IsOnEd25519}
use Rattle.ed25519.specs.Spelling.{spelling}

-- the number by which the key is multiplied: SHA-512 of R, of the key and of the message, modulo the order
abbrev pub challenge : List ℕ → List ℕ → List ℕ → ℕ
challenge first key message = number_of_bytes (sha512 (first ++ (key ++ message))) % order

-- 64 bytes: those of a point R, and of a number S below the order with S B = R + k A, where A is the point that the
-- key's
-- 32 bytes are, and k the challenge. The bytes of A and of R are canonical; the equation has no cofactor.
pub record IsSignature (key message signature : List ℕ) : Type 0 where
  pub public : Coordinates
  pub public_on : IsOnEd25519 public
  pub key_is : key ≡ spelling public
  pub first : Coordinates
  pub first_on : IsOnEd25519 first
  pub scalar : ℕ
  pub scalar_below : scalar < order
  pub signature_is : signature ≡ spelling first ++ bytes_of_number 32 scalar
  pub equation : times curve scalar base_point
      ≡ curve.plus first (times curve (challenge (spelling first) key message) public)

-- ---- making one, from a seed of 32 bytes

-- the secret scalar: the lower half of the seed's digest, with its lowest three bits and its highest cleared and the
-- second highest set
abbrev pub secret : List ℕ → ℕ
secret seed = 2 ^ 254 + 8 * (number_of_bytes (take 32 (sha512 seed)) / 8 % 2 ^ 251)

-- the key that others are given
abbrev pub key_of : List ℕ → List ℕ
key_of seed = spelling (times curve (secret seed) base_point)

-- the number that takes the place of a random one
abbrev pub nonce : List ℕ → List ℕ → ℕ
nonce seed message = number_of_bytes (sha512 (drop 32 (sha512 seed) ++ message)) % order

-- the signature
abbrev pub signature_of : List ℕ → List ℕ → List ℕ
signature_of seed message =
    let first = spelling (times curve (nonce seed message) base_point) in
    let k = challenge first (key_of seed) message in
    first ++ bytes_of_number 32 ((nonce seed message + k * secret seed) % order)
