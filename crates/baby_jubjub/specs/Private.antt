-- circomlib's private keys of 32 bytes.
use Rattle.std.specs.Prelude.{ℕ, ◌+◌, ◌*◌, ◌/◌, ◌%◌, ◌^◌, List, ◌++◌, take, drop}
use Rattle.ark_base.specs.Digits.{number_of_bytes, bytes_of_number}
use Rattle.baby_jubjub.specs.BabyJubjub.{order}
use Rattle.baby_jubjub.specs.Blake512.{blake512}

-- the number that pruneBuffer leaves: the lower half of the key's digest, with its lowest three bits and its highest
-- cleared and the second highest set
abbrev pub private_number : List ℕ → ℕ
private_number bytes = 2 ^ 254 + 8 * (number_of_bytes (take 32 (blake512 bytes)) / 8 % 2 ^ 251)

-- the secret: an eighth of that number, modulo the order
abbrev pub private_secret : List ℕ → ℕ
private_secret bytes = private_number bytes / 8 % order

-- the nonce of a message: the digest of the upper half and of the message's 32 bytes, modulo the order
abbrev pub private_nonce : List ℕ → ℕ → ℕ
private_nonce bytes message =
    number_of_bytes (blake512 (drop 32 (blake512 bytes) ++ bytes_of_number 32 message)) % order
