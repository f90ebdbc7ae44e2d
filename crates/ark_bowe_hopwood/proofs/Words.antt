-- Chunks of texts, three bytes after three.
use Rattle.std.proofs.Common.{◌≡◌, ℕ, zero, suc, ◌+◌, ◌-◌, ◌*◌, ◌/◌, ◌%◌, ◌^◌, ◌<◌, ◌≤◌, min, Bool, eqb, List, [], ◌∷◌, ◌++◌, length, take, drop, replicate, inl, inr, refl, sym, ap, ◌∙◌, arith}
use Rattle.std.specs.Int.{div_ceil}
use Rattle.std.proofs.lemmas.Bool.{cases_lt}
use Rattle.std.proofs.lemmas.List.{append-nil}
use Rattle.ark_base.specs.Digits.{number_of_bytes}
use Rattle.ark_base.specs.Reading.{IsBytes}
use Rattle.ark_groups.specs.Group.{Group, IsCommutativeGroup}
use Rattle.ark_groups.specs.Bits.{bits_of_number}
use Rattle.ark_groups.proofs.Multiples.{right_identity}
use Rattle.ark_pedersen.specs.Pedersen.{bits_of_bytes}
use Rattle.ark_pedersen.proofs.ByteLists.{IsBytes-append, IsBytes-zeros}
use Rattle.ark_pedersen.proofs.BitSums.{bits_of_number-add, bits_of_bytes-number, number_of_bytes-below}
use Rattle.ark_bowe_hopwood.specs.BoweHopwood.{Chunk, chunks_of, digits_sum}
use Rattle.ark_bowe_hopwood.proofs.Chunks.{chunks_of-append, chunks_of-padded, length-chunks_of, digits_sum-behind, digits_sum-nothing}

-- ---- digits of a number that is put together of two

take-bits_of_number : (j k n : ℕ) → j ≤ k → take j (bits_of_number k n) ≡ bits_of_number j n
unfolding bits_of_number
take-bits_of_number zero k n fits = refl
take-bits_of_number (suc j) zero n fits = absurd (omega arith)
take-bits_of_number (suc j) (suc k) n fits =
    ap (λ (t : List Bool). eqb (n % 2) 1 ∷ t) (take-bits_of_number j k (n / 2) (omega arith))

-- the lowest digits are those of the lower number
low_digits : (j k low high : ℕ) → j ≤ k → low < 2 ^ k → bits_of_number j (low + 2 ^ k * high) ≡ bits_of_number j low
unfolding bits_of_number
low_digits j k low high within fits =
    let more : k ≡ k + 0 = omega arith in
    sym (take-bits_of_number j k (low + 2 ^ k * high) within)
    ∙ ap (take j) (ap (λ (i : ℕ). bits_of_number i (low + 2 ^ k * high)) more ∙ bits_of_number-add k 0 low high fits
    ∙ append-nil (bits_of_number k low))
    ∙ take-bits_of_number j k low within

module _ {G : Type 0} {g : Group G} (laws : IsCommutativeGroup g) where
  -- the chunks of the lower number are at the elements in front, those of the higher one at the others
  digits_sum-two : (xs : List G) (k m low high : ℕ) → low < 2 ^ (3 * k)
      → digits_sum g xs (chunks_of (bits_of_number (3 * (k + m)) (low + 2 ^ (3 * k) * high)))
      ≡ g.plus (digits_sum g xs (chunks_of (bits_of_number (3 * k) low))) (digits_sum g (drop k xs)
      (chunks_of (bits_of_number (3 * m) high)))
  digits_sum-two xs k m low high fits =
      let both : 3 * (k + m) ≡ 3 * k + 3 * m = omega arith in
      let front : List Chunk = chunks_of (bits_of_number (3 * k) low) in
      let behind : List Chunk = chunks_of (bits_of_number (3 * m) high) in
      ap (digits_sum g xs) (ap chunks_of (ap (λ (i : ℕ). bits_of_number i (low + 2 ^ (3 * k) * high)) both
      ∙ bits_of_number-add (3 * k) (3 * m) low high fits)
      ∙ chunks_of-append k low (bits_of_number (3 * m) high))
      ∙ digits_sum-behind laws xs front behind
      ∙ ap (λ (i : ℕ). g.plus (digits_sum g xs front) (digits_sum g (drop i xs) behind)) (length-chunks_of k low)

  -- of a text, at most this many chunks of the first bytes, and the others
  pub digits_sum-part : (xs : List G) (k m low high : ℕ) → low < 2 ^ (3 * k)
      → digits_sum g xs (chunks_of (bits_of_number (3 * m) (low + 2 ^ (3 * k) * high)))
      ≡ g.plus (digits_sum g xs (chunks_of (bits_of_number (3 * min m k) low))) (digits_sum g (drop k xs)
      (chunks_of (bits_of_number (3 * (m - k)) high)))
  digits_sum-part xs k m low high fits =
      elim (cases_lt m k) [
        | inl few ↦
            let all : min m k ≡ m = omega arith in
            let none : 3 * (m - k) ≡ 0 = omega arith in
            ap (λ (bits : List Bool). digits_sum g xs (chunks_of bits)) (low_digits (3 * m) (3 * k) low high
            (omega arith) fits)
            ∙ sym (right_identity laws _)
            ∙ ap (g.plus (digits_sum g xs (chunks_of (bits_of_number (3 * m) low))))
            (sym (digits_sum-nothing laws (drop k xs) (3 * (m - k)) high none))
            ∙ ap (λ (i : ℕ). g.plus (digits_sum g xs (chunks_of (bits_of_number (3 * i) low))) (digits_sum g (drop k xs)
            (chunks_of (bits_of_number (3 * (m - k)) high)))) (sym all)
        | inr many ↦
            let all : min m k ≡ k = omega arith in
            let more : m ≡ k + (m - k) = omega arith in
            ap (λ (i : ℕ). digits_sum g xs (chunks_of (bits_of_number (3 * i) (low + 2 ^ (3 * k) * high)))) more
            ∙ digits_sum-two xs k (m - k) low high fits
            ∙ ap (λ (i : ℕ). g.plus (digits_sum g xs (chunks_of (bits_of_number (3 * i) low))) (digits_sum g (drop k xs)
            (chunks_of (bits_of_number (3 * (m - k)) high)))) (sym all)
      ]

-- ---- texts

-- a text is its first three bytes and the others
pub three_bytes : (t : List ℕ) → number_of_bytes t ≡ number_of_bytes (take 3 t) + 16777216 * number_of_bytes (drop 3 t)
three_bytes [] = refl
three_bytes (a ∷ []) = omega arith
three_bytes (a ∷ b ∷ []) = omega arith
three_bytes (a ∷ b ∷ c ∷ t) = omega arith

pub three_bytes-below : (t : List ℕ) → IsBytes t → number_of_bytes (take 3 t) < 16777216
three_bytes-below [] fits = omega arith
three_bytes-below (a ∷ []) fits = let x = fits 0 in omega arith
three_bytes-below (a ∷ b ∷ []) fits = let x = fits 0 in let y = fits 1 in omega arith
three_bytes-below (a ∷ b ∷ c ∷ t) fits = let x = fits 0 in let y = fits 1 in let z = fits 2 in omega arith

number_of_zeros : (n : ℕ) → number_of_bytes (replicate n 0) ≡ 0
number_of_zeros zero = refl
number_of_zeros (suc n) = omega (arith, number_of_zeros n)

-- zeros behind a text do not count
number_of_padded : (t : List ℕ) (n : ℕ) → number_of_bytes (t ++ replicate n 0) ≡ number_of_bytes t
number_of_padded [] n = number_of_zeros n
number_of_padded (x ∷ t) n = ap (λ (m : ℕ). x + 256 * m) (number_of_padded t n)

-- the chunks of a text with zeros behind it
pub chunks_of-text : (t : List ℕ) (n : ℕ) → IsBytes t → chunks_of (bits_of_bytes (t ++ replicate n 0))
    ≡ chunks_of (bits_of_number (3 * div_ceil (8 * length (t ++ replicate n 0)) 3) (number_of_bytes t))
chunks_of-text t n fits =
    let whole : List ℕ = t ++ replicate n 0 in
    let bytes = IsBytes-append t (replicate n 0) fits (IsBytes-zeros n) in
    let bits : ℕ = 8 * length whole in
    ap chunks_of (bits_of_bytes-number whole bytes)
    ∙ chunks_of-padded bits (number_of_bytes whole) (number_of_bytes-below whole bytes)
    ∙ ap (λ (m : ℕ). chunks_of (bits_of_number (3 * div_ceil bits 3) m)) (number_of_padded t n)
