-- The state that two digests begin, and the answers of the two modes.
use Rattle.std.proofs.Common.{◌≡◌, ℕ, ◌+◌, ◌-◌, ◌<◌, ◌≤◌, List, ◌++◌, length, take, map, replicate, Ok, append_assoc, refl, ap, ◌∙◌, arith}
use Rattle.std.proofs.lemmas.Bool.{eq-eqb, lt-ltb}
use Rattle.std.proofs.lemmas.List.{map-append, take_all, length-append}
use Rattle.std.proofs.Math.ListN.{length-map}
use Rattle.ark_sponge.proofs.Zeros.{all_zero}
use Rattle.poseidon2.specs.Permutation.{Poseidon2Parameters, poseidon2_permutation}
use Rattle.poseidon2.specs.Modes.{both_and_zeros, compressed_digests, state_overwriting, padding_free_hash}

-- two lists behind each other, and zeros up to the width
pub zeros-behind : {F : Type 0} (f : F → ℕ) (z : F) (w n : ℕ) (ls rs both all : List F) → f z ≡ 0
    → both ≡ ls ++ rs → length ls + length rs ≤ w → n ≡ length both
    → all ≡ take w both ++ replicate (w - n) z → map f all ≡ both_and_zeros w (map f ls) (map f rs)
zeros-behind f z w n ls rs both all zero_is joined fits count is =
    let long : length both ≡ length ls + length rs = ap length joined ∙ length-append ls rs in
    let whole : take w both ≡ ls ++ rs = take_all w both (omega (arith, long, fits)) ∙ joined in
    let left : w - n ≡ w - (length (map f ls) + length (map f rs)) =
    rw (length-map ls f, length-map rs f, count, long) refl in
    let zeros = replicate (w - n) z in
    let none_behind : map f zeros ≡ replicate (w - (length (map f ls) + length (map f rs))) 0 =
    all_zero f (w - n) z zero_is ∙ ap (λ k. replicate k 0) left in
    ap (map f) (is ∙ ap (λ l. l ++ zeros) whole) ∙ map-append f (ls ++ rs) zeros
    ∙ ap (λ l. l ++ map f zeros) (map-append f ls rs) ∙ append_assoc (map f ls) (map f rs) (map f zeros)
    ∙ ap (λ l. map f ls ++ (map f rs ++ l)) none_behind

module _ (p : ℕ) (sbox : ℕ → ℕ → ℕ) (row : ℕ → List ℕ) (c : Poseidon2Parameters) where
  -- two digests of one length that fit a state have a hash
  pub compressed-answer : (left right out : List ℕ) → length left ≡ length right
      → length left + length right ≤ length c.diagonal
      → out ≡ take (length left) (poseidon2_permutation p sbox row c (both_and_zeros (length c.diagonal) left right))
      → compressed_digests p sbox row c left right ≡ Ok out
  compressed-answer left right out same fits is =
      rw (
        eq-eqb (length left) (length right) same,
        lt-ltb (length left + length right) (length c.diagonal + 1) (omega (arith, fits)),
        is,
      ) refl

  -- at a rate and a count that fit a state each list has a hash
  pub padding_free-answer : (rate count : ℕ) (xs out : List ℕ) → 0 < rate → rate ≤ length c.diagonal
      → count ≤ length c.diagonal
      → out ≡ take count (state_overwriting (poseidon2_permutation p sbox row c) rate
      (replicate (length c.diagonal) 0) xs)
      → padding_free_hash p sbox row c rate count xs ≡ Ok out
  padding_free-answer rate count xs out some fits short is =
      rw (
        lt-ltb 0 rate some,
        lt-ltb rate (length c.diagonal + 1) (omega (arith, fits)),
        lt-ltb count (length c.diagonal + 1) (omega (arith, short)),
        is,
      ) refl
