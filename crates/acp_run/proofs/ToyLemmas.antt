-- Digests of `toy`.
use Rattle.std.proofs.Common.{◌≡◌, ◌∙◌, ℕ, ◌<◌, ◌/◌, ◌%◌, List, [], ◌∷◌, length, Option, Some, None, Ok, Err, refl, ap, sym, arith}
use Rattle.ark_base.specs.Laws.Steps.{done_injective}
use Rattle.ark_base.specs.Digits.{bytes_of_number, below_at}
use Rattle.ark_base.specs.Reading.{Reading, reading_outcome}
use Rattle.acp_run.specs.Toy.{whole_digest, toy_digest, toy_bytes}

whole_digest-more : (r : Reading ℕ) (value : ℕ) (rest : List ℕ) → reading_outcome r ≡ Ok (value, rest) → 0 < length rest
    → whole_digest r ≡ None
whole_digest-more (Ok (w, [])) value rest read some = let pair = done_injective {A = ℕ × List ℕ} (w, []) (value, rest)
    read in absurd (omega (arith, some, ap (λ (p : ℕ × List ℕ). length p.1) pair))
whole_digest-more (Ok (w, b ∷ bs)) value rest read some = refl
whole_digest-more (Err fault) value rest read some = absurd cc

-- bytes are left behind the digest
pub toy_digest-more : (said : Option (List ℕ)) (bytes : List ℕ) (value : ℕ) (rest : List ℕ) → Some bytes ≡ said
    → reading_outcome (below_at 257 2 bytes) ≡ Ok (value, rest) → 0 < length rest → None ≡ toy_digest said
toy_digest-more said bytes value rest is read some =
    sym (ap toy_digest (sym is) ∙ whole_digest-more (below_at 257 2 bytes) value rest read some)

pub toy_bytes-two : (n : ℕ) → toy_bytes (n ∷ []) ≡ (n % 256) ∷ (n / 256 % 256) ∷ []
unfolding bytes_of_number
toy_bytes-two n = refl
