-- Cosignatures of checkpoints, as C2SP's tlog-cosignature has them (cosignature/v1).
use Rattle.std.specs.Prelude.{◌≡◌, ◌==◌, ℕ, List, ◌∷◌, ◌++◌, codes, if◌then◌else◌, length, take, drop}
use Rattle.std.specs.Fmt.{decimal}
use Rattle.std.specs.Int.{w64, from_be_bytes, to_be_bytes}
use Rattle.ed25519.specs.Signatures.{IsSignature, signature_of}

-- what is signed: a title, the time in seconds since 1970, and the text
abbrev pub cosigned : ℕ → List ℕ → List ℕ
cosigned time text = codes "cosignature/v1\ntime " ++ (decimal time ++ (10 ∷ text))

-- the time that a cosignature states: its first eight bytes, the highest first
abbrev pub time_of : List ℕ → ℕ
time_of bytes = from_be_bytes w64 (take 8 bytes)

-- the time that a signature states, where it is as long as a cosignature; else 0
abbrev pub stated_time : List ℕ → ℕ
stated_time bytes = if length bytes == 72 then time_of bytes else 0

-- eight bytes of a time, and 64 of a signature of the text at that time
pub record IsCosignature (key text bytes : List ℕ) : Type 0 where
  pub long : length bytes ≡ 72
  pub signed : IsSignature key (cosigned (time_of bytes) text) (drop 8 bytes)

-- the cosignature of a text at a time, by a seed
abbrev pub cosignature_of : List ℕ → ℕ → List ℕ → List ℕ
cosignature_of seed time text = to_be_bytes w64 time ++ signature_of seed (cosigned time text)
