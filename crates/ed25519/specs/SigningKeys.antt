-- A seed with its public key.
use Rattle.std.specs.Prelude.{ℕ, List}
use Rattle.ed25519.specs.declared.signing_key.SigningKey.{SigningKey}

-- the seed that a key was made of
abbrev pub seed_of : SigningKey → List ℕ
seed_of key = key.seed
