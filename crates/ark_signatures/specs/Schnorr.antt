-- Schnorr signatures over a group.
use Rattle.std.specs.Prelude.{◌≡◌, ℕ, zero, suc, ◌+◌, ◌-◌, ◌*◌, ◌%◌, ◌==◌, Bool, true, false, Option, Some, None}
use Rattle.std.specs.Prelude.{List, ◌++◌, length, reverse, Ok, Err, nat_lt, if◌then◌else◌}
use Rattle.std.specs.List.{flat_map}
use Rattle.std.specs.Option.{option_map_or}
use Rattle.rand_core.specs.Stream.{Stream}
use Rattle.ark_base.specs.Outcome.{Outcome, ◌>>=◌}
use Rattle.ark_base.specs.Spelling.{word}
use Rattle.ark_base.specs.declared.error.Error.TheVariants.{GenericError}
use Rattle.ark_base.specs.declared.error.Refusal.TheVariants.{DrawsExhausted}
use Rattle.ark_groups.specs.Bits.{bits_of_number, number_of_bits}
use Rattle.ark_groups.specs.Field.{drawn_number}
use Rattle.ark_groups.specs.Group.{Group, times}
use Rattle.ark_signatures.specs.declared.signature.schnorr.generator.PreparedParameters.{PreparedParameters}
use Rattle.ark_signatures.specs.declared.signature.schnorr.keys.Parameters.{Parameters}
use Rattle.ark_signatures.specs.declared.signature.schnorr.keys.Signature.{Signature}

-- ---- parameters with a table

-- the parameters whose generator has the table
abbrev pub parameters_of : {C F S T : Type 0} → (T → C) → PreparedParameters C T F S → Parameters C F S
parameters_of base prepared = record { generator = base prepared.table; salt = prepared.salt }

-- ---- challenges

-- the number below the modulus that bytes give, if they give one
abbrev pub scalar_of : ℕ → ℕ → List ℕ → Option ℕ
scalar_of modulus bits bytes =
    if nat_lt (drawn_number bits bytes) modulus then Some (drawn_number bits bytes) else None

-- what is digested: the salt, the point's canonical bytes, and the message's, which begin with its length
abbrev pub challenge_text : List ℕ → List ℕ → List ℕ → List ℕ
challenge_text salt point message = salt ++ point ++ word (length message) ++ message

-- the challenge that a digest gives: a scalar, or none, or the digest's refusal
abbrev pub challenge_of : ℕ → ℕ → Outcome (List ℕ) → Outcome (Option ℕ)
challenge_of modulus bits digest = digest >>= λ bytes. Ok (scalar_of modulus bits bytes)

-- ---- signing

-- a number whose multiple of the generator has a challenge, that challenge, and the stream behind the draw
pub record Nonce : Type 0 where
  pub number : ℕ
  pub challenge : ℕ
  pub left : Stream

-- The first such number that is drawn, one after another. The digest's refusal is returned at the first multiple that
-- meets one, and `DrawsExhausted` after the given count of draws without a challenge.
unfoldable pub first_nonce : {F : Type 0} → (Stream → F × Stream) → (F → ℕ) → (ℕ → Outcome (Option ℕ)) → ℕ → Stream
    → Outcome Nonce
first_nonce draw value challenge zero stream = Err (GenericError DrawsExhausted)
first_nonce draw value challenge (suc draws) stream =
    let number = value (draw stream).0 in
    let left = (draw stream).1 in
    challenge number >>= λ found.
    option_map_or (λ e. Ok (record { number = number; challenge = e; left = left })) found
    (first_nonce draw value challenge draws left)

-- k - x e modulo the modulus
abbrev pub response : ℕ → ℕ → ℕ → ℕ → ℕ
response modulus x k e = (k + (modulus - (x * e) % modulus)) % modulus

-- the response k - x e and the challenge e for the first such k among 128 draws, and the stream behind it
abbrev pub signed : {F : Type 0} → (Stream → F × Stream) → (F → ℕ) → (ℕ → Outcome (Option ℕ)) → ℕ → ℕ → Stream
    → Outcome ((ℕ × ℕ) × Stream)
signed draw value challenge modulus x stream =
    first_nonce draw value challenge 128 stream >>= λ nonce.
    Ok ((response modulus x nonce.number nonce.challenge, nonce.challenge), nonce.left)

-- the two numbers that a signature is
abbrev pub numbers_of : {G F S : Type 0} → (F → ℕ) → Signature G F S → ℕ × ℕ
numbers_of value signature = (value signature.prover_response, value signature.verifier_challenge)

-- ---- verifying

-- the point that a signature (s, e) claims under a key: s times the generator plus e times the key
abbrev pub claimed : {G : Type 0} → Group G → G → G → ℕ × ℕ → G
claimed g generator key signature = g.plus (times g signature.0 generator) (times g signature.1 key)

-- whether e is the challenge of s times the generator plus e times the key, or the digest's refusal
abbrev pub verified : {G : Type 0} → Group G → (G → Outcome (Option ℕ)) → G → G → ℕ × ℕ → Outcome Bool
verified g challenge generator key signature =
    challenge (claimed g generator key signature) >>= λ found.
    Ok (option_map_or (λ e. e == signature.1) found false)

-- the signature is valid under the key
abbrev pub IsValid : {G : Type 0} → Group G → (G → Outcome (Option ℕ)) → G → G → ℕ × ℕ → Type 0
IsValid g challenge generator key signature = verified g challenge generator key signature ≡ Ok true

-- ---- randomising

-- the binary digits of bytes, the highest of each byte first
abbrev pub highest_first : List ℕ → List Bool
highest_first bytes = flat_map (λ byte. reverse (bits_of_number 8 byte)) bytes

-- the whole number that bytes multiply by: 2 ^ i for each place i of these digits that is set
abbrev pub multiplier : List ℕ → ℕ
multiplier bytes = number_of_bits (highest_first bytes)

-- the key with m times the generator added
abbrev pub randomised_key : {G : Type 0} → Group G → G → ℕ → G → G
randomised_key g generator m key = g.plus key (times g m generator)

-- the signature (s - e m, e)
abbrev pub randomised : ℕ → ℕ → ℕ × ℕ → ℕ × ℕ
randomised modulus m signature = (response modulus m signature.0 signature.1, signature.1)
