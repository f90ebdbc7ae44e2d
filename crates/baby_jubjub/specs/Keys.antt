-- Secret keys.
use Rattle.std.specs.Prelude.{ℕ, ◌/◌, ◌%◌, List}
use Rattle.ark_base.specs.Digits.{number_of_bytes}
use Rattle.baby_jubjub.specs.declared.keys.SigningKey.{SigningKey}
use Rattle.baby_jubjub.specs.BabyJubjub.{order}
use Rattle.baby_jubjub.specs.Values.{scalar_number}

-- the number by which a key multiplies Base8
abbrev pub secret_of : SigningKey → ℕ
secret_of key = scalar_number key.secret

-- of circomlib's pruned bytes, which are a number s, s / 8 modulo the order
unfoldable pub secret_in : List ℕ → ℕ
secret_in bytes = number_of_bytes bytes / 8 % order
