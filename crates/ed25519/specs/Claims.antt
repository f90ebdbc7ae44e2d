-- Claims that signatures are those of messages under keys.
use Rattle.std.specs.Prelude.{ℕ, ◌<◌, List, length, get_or}
use Rattle.ed25519.specs.declared.many.Claim.{Claim}
use Rattle.ed25519.specs.Signatures.{IsSignature}

-- a claim holds
abbrev pub Holds : Claim → Type 0
Holds c = IsSignature c.key.now c.message.now c.signature.now

-- the first n of a list hold
abbrev pub HoldBelow : List Claim → ℕ → Type 0
HoldBelow claims n = (k : ℕ) (e : Claim) → k < n → Holds (get_or claims k e)

-- that at an index does not
abbrev pub FailsAt : List Claim → ℕ → Type 0
FailsAt claims i = (i < length claims) × ((e : Claim) → Holds (get_or claims i e) → ⊥)
