-- Private keys with what is made of them.
use Rattle.std.specs.Prelude.{ℕ, List}
use Rattle.baby_jubjub.specs.declared.private.PrivateKey.{PrivateKey}

-- the bytes that a key was made of
abbrev pub private_bytes : PrivateKey → List ℕ
private_bytes key = key.bytes
