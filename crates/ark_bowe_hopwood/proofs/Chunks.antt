-- Chunks of the digits of numbers, and sums over them.
use Rattle.std.proofs.Common.{◌≡◌, ℕ, zero, suc, ◌*◌, ◌/◌, ◌%◌, ◌^◌, ◌<◌, Bool, eqb, List, [], ◌∷◌, ◌++◌, length, take, drop, refl, sym, ap, ◌∙◌, arith}
use Rattle.std.specs.Int.{div_ceil}
use Rattle.std.proofs.Math.Nat.{pow-suc}
use Rattle.ark_groups.specs.Group.{Group, IsCommutativeGroup}
use Rattle.ark_groups.proofs.Multiples.{right_identity}
use Rattle.ark_groups.specs.Bits.{bits_of_number}
use Rattle.ark_bowe_hopwood.specs.BoweHopwood.{Chunk, chunks_of, digit, signed_times, digits_sum}

-- the chunk of the lowest three digits
abbrev pub lowest : ℕ → Chunk
lowest n = (eqb (n % 2) 1, eqb (n / 2 % 2) 1, eqb (n / 4 % 2) 1)

pub chunks_of-first : (k n : ℕ) → chunks_of (bits_of_number (3 * suc k) n) ≡ lowest n
    ∷ chunks_of (bits_of_number (3 * k) (n / 8))
unfolding chunks_of bits_of_number
chunks_of-first k n =
    let more : 3 * suc k ≡ suc (suc (suc (3 * k))) = omega arith in
    let two : n / 2 / 2 ≡ n / 4 = omega arith in
    let three : n / 2 / 2 / 2 ≡ n / 8 = omega arith in
    ap (λ (i : ℕ). chunks_of (bits_of_number i n)) more
    ∙ ap (λ (q : ℕ). (eqb (n % 2) 1, eqb (n / 2 % 2) 1, eqb (q % 2) 1)
    ∷ chunks_of (bits_of_number (3 * k) (n / 2 / 2 / 2))) two
    ∙ ap (λ (r : ℕ). lowest n ∷ chunks_of (bits_of_number (3 * k) r)) three

pub length-chunks_of : (k n : ℕ) → length (chunks_of (bits_of_number (3 * k) n)) ≡ k
unfolding chunks_of bits_of_number
length-chunks_of zero n = refl
length-chunks_of (suc k) n = ap length (chunks_of-first k n) ∙ ap suc (length-chunks_of k (n / 8))

pub chunks_of-append : (k n : ℕ) (bits : List Bool) → chunks_of (bits_of_number (3 * k) n ++ bits)
    ≡ chunks_of (bits_of_number (3 * k) n) ++ chunks_of bits
unfolding chunks_of bits_of_number
chunks_of-append zero n bits = refl
chunks_of-append (suc k) n bits =
    let more : 3 * suc k ≡ suc (suc (suc (3 * k))) = omega arith in
    ap (λ (i : ℕ). chunks_of (bits_of_number i n ++ bits)) more
    ∙ ap (λ (t : List Chunk). (eqb (n % 2) 1, eqb (n / 2 % 2) 1, eqb (n / 2 / 2 % 2) 1) ∷ t)
    (chunks_of-append k (n / 2 / 2 / 2) bits)
    ∙ ap (λ (i : ℕ). chunks_of (bits_of_number i n) ++ chunks_of bits) (sym more)

-- missing digits are those of a number that has no more
pub chunks_of-padded : (k n : ℕ) → n < 2 ^ k → chunks_of (bits_of_number k n)
    ≡ chunks_of (bits_of_number (3 * div_ceil k 3) n)
unfolding chunks_of bits_of_number
chunks_of-padded zero n fits = refl
chunks_of-padded (suc zero) n fits =
    let none : n / 2 ≡ 0 = omega arith in
    rw none refl
chunks_of-padded (suc (suc zero)) n fits =
    let none : n / 2 / 2 ≡ 0 = omega arith in
    rw none refl
chunks_of-padded (suc (suc (suc k))) n fits =
    let ceil : div_ceil (suc (suc (suc k))) 3 ≡ suc (div_ceil k 3) = omega arith in
    let rest : n / 2 / 2 / 2 ≡ n / 8 = omega arith in
    let two : n / 2 / 2 ≡ n / 4 = omega arith in
    let small : n / 8 < 2 ^ k = omega (arith, pow-suc 2 k, pow-suc 2 (suc k), pow-suc 2 (suc (suc k))) in
    ap (λ (q : ℕ). (eqb (n % 2) 1, eqb (n / 2 % 2) 1, eqb (q % 2) 1) ∷ chunks_of (bits_of_number k (n / 2 / 2 / 2))) two
    ∙ ap (λ (r : ℕ). lowest n ∷ chunks_of (bits_of_number k r)) rest
    ∙ ap (λ (t : List Chunk). lowest n ∷ t) (chunks_of-padded k (n / 8) small)
    ∙ sym (chunks_of-first (div_ceil k 3) n)
    ∙ ap (λ (i : ℕ). chunks_of (bits_of_number (3 * i) n)) (sym ceil)

-- ---- sums

module _ {G : Type 0} {g : Group G} (laws : IsCommutativeGroup g) where
  pub digits_sum-none : (xs : List G) → digits_sum g xs [] ≡ g.identity
  unfolding digits_sum
  digits_sum-none [] = refl
  digits_sum-none (x ∷ xs) = refl

  -- the chunks behind are at the elements behind
  pub digits_sum-behind : (xs : List G) (a b : List Chunk) → digits_sum g xs (a ++ b) ≡ g.plus (digits_sum g xs a)
      (digits_sum g (drop (length a) xs) b)
  unfolding digits_sum
  digits_sum-behind xs [] b = sym (ap (λ s. g.plus s (digits_sum g xs b)) (digits_sum-none xs) ∙ laws.left_identity _)
  digits_sum-behind [] (c ∷ a) b = sym (laws.left_identity _)
  digits_sum-behind (x ∷ xs) (c ∷ a) b = ap (g.plus (signed_times g (digit c) x)) (digits_sum-behind xs a b)
      ∙ sym (laws.assoc _ _ _)

  -- the elements behind are at the chunks behind
  pub digits_sum-append : (xs ys : List G) (chunks : List Chunk) → digits_sum g (xs ++ ys) chunks
      ≡ g.plus (digits_sum g xs (take (length xs) chunks)) (digits_sum g ys (drop (length xs) chunks))
  unfolding digits_sum
  digits_sum-append [] ys chunks = sym (laws.left_identity _)
  digits_sum-append (x ∷ xs) ys [] = sym (ap (g.plus g.identity) (digits_sum-none ys) ∙ laws.left_identity _)
  digits_sum-append (x ∷ xs) ys (c ∷ chunks) = ap (g.plus (signed_times g (digit c) x)) (digits_sum-append xs ys chunks)
      ∙ sym (laws.assoc _ _ _)

  pub digits_sum-nothing : (xs : List G) (k n : ℕ) → k ≡ 0 → digits_sum g xs (chunks_of (bits_of_number k n))
      ≡ g.identity
  unfolding chunks_of bits_of_number
  digits_sum-nothing xs k n none = ap (λ (i : ℕ). digits_sum g xs (chunks_of (bits_of_number i n))) none
      ∙ digits_sum-none xs

  -- where what was added and what is still to be added are the whole, and nothing is, the sum is whole
  pub digits_sum-done : (xs : List G) (sum whole : G) (k n : ℕ) → k ≡ 0
      → g.plus sum (digits_sum g xs (chunks_of (bits_of_number k n))) ≡ whole → sum ≡ whole
  digits_sum-done xs sum whole k n none so_far =
      sym (right_identity laws sum) ∙ ap (g.plus sum) (sym (digits_sum-nothing xs k n none)) ∙ so_far
