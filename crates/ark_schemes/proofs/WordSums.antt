-- Sums of the elements at the set bits of a number of four words, word by word.
use Rattle.std.proofs.Common.{◌≡◌, ℕ, ◌+◌, ◌-◌, ◌*◌, ◌^◌, ◌<◌, ◌≤◌, List, drop, sym, ap, ◌∙◌, subst, arith, lit<, inl, inr}
use Rattle.std.proofs.Math.Nat.{pow-le-pow_right}
use Rattle.std.proofs.lemmas.Bool.{cases_lt}
use Rattle.std.proofs.lemmas.List.{drop-drop}
use Rattle.std.proofs.lemmas.Nat.{pow-add}
use Rattle.ark_groups.specs.Group.{Group, IsCommutativeGroup}
use Rattle.ark_groups.specs.Bits.{bits_of_number}
use Rattle.ark_groups.specs.Words.{four}
use Rattle.ark_pedersen.specs.Pedersen.{pedersen_sum}
use Rattle.ark_pedersen.proofs.BitSums.{bits_of_number-add, length-bits_of_number}
use Rattle.ark_pedersen.proofs.PedersenSums.{pedersen_sum-behind}

-- ---- the words of a number with few digits have few digits

one_at_least : (n : ℕ) → 0 < 2 ^ n
one_at_least n =
    let from : 0 ≤ n = omega arith in
    let power : 2 ^ 0 ≤ 2 ^ n = pow-le-pow_right (lit< tt) from in
    omega arith

high_below : (low high len : ℕ) → low + 2 ^ 64 * high < 2 ^ len → high < 2 ^ (len - 64)
high_below low high len fits =
    elim (cases_lt len 64) [
      | inl few ↦
          let most : len ≤ 64 = omega arith in
          let power : 2 ^ len ≤ 2 ^ 64 = pow-le-pow_right (lit< tt) most in
          omega (arith, one_at_least (len - 64))
      | inr many ↦
          let split : len ≡ 64 + (len - 64) = omega arith in
          let power : 2 ^ len ≡ 2 ^ 64 * 2 ^ (len - 64) = ap (λ (n : ℕ). 2 ^ n) split ∙ pow-add 2 64 (len - 64) in
          omega arith
    ]

-- a word stands below where the digits end
pub words_below : (a b c d len : ℕ) → four a b c d < 2 ^ len
    → (a < 2 ^ (len - 0)) × (b < 2 ^ (len - 64)) × (c < 2 ^ (len - 128)) × (d < 2 ^ (len - 192))
words_below a b c d len fits =
    let first = high_below a (b + 2 ^ 64 * (c + 2 ^ 64 * d)) len fits in
    let second = high_below b (c + 2 ^ 64 * d) (len - 64) first in
    let third = high_below c d (len - 64 - 64) second in
    let none : len - 0 ≡ len = omega arith in
    let two : len - 64 - 64 ≡ len - 128 = omega arith in
    let three : len - 64 - 64 - 64 ≡ len - 192 = omega arith in (
      subst (λ (n : ℕ). a < 2 ^ n) (sym none) (omega arith),
      omega arith,
      subst (λ (n : ℕ). c < 2 ^ n) two (omega arith),
      subst (λ (n : ℕ). d < 2 ^ n) three third,
    )

-- ---- sums

module _ {G : Type 0} {g : Group G} (laws : IsCommutativeGroup g) (xs : List G) where
  -- the elements at the digits of a word, and those at the digits behind it
  joined : (first m low high : ℕ) (sum new whole : G) → low < 2 ^ 64
      → new ≡ g.plus sum (pedersen_sum g (drop first xs) (bits_of_number 64 low))
      → whole ≡ g.plus new (pedersen_sum g (drop (first + 64) xs) (bits_of_number m high))
      → whole ≡ g.plus sum (pedersen_sum g (drop first xs) (bits_of_number (64 + m) (low + 2 ^ 64 * high)))
  joined first m low high sum new whole fits here behind =
      let ys = drop first xs in
      let word : G = pedersen_sum g ys (bits_of_number 64 low) in
      let elements : drop (first + 64) xs ≡ drop 64 ys = sym (drop-drop 64 first xs) in
      let split : pedersen_sum g ys (bits_of_number (64 + m) (low + 2 ^ 64 * high))
      ≡ g.plus word (pedersen_sum g (drop 64 ys) (bits_of_number m high)) =
      ap (pedersen_sum g ys) (bits_of_number-add 64 m low high fits)
      ∙ pedersen_sum-behind laws ys (bits_of_number 64 low) (bits_of_number m high)
      ∙ ap (λ (k : ℕ). g.plus word (pedersen_sum g (drop k ys) (bits_of_number m high)))
      (length-bits_of_number 64 low) in
      behind
      ∙ ap (λ (s : G). g.plus s (pedersen_sum g (drop (first + 64) xs) (bits_of_number m high))) here
      ∙ ap (λ (zs : List G). g.plus (g.plus sum word) (pedersen_sum g zs (bits_of_number m high))) elements
      ∙ laws.assoc _ _ _
      ∙ ap (g.plus sum) (sym split)

  -- word by word
  module _ (a b c d : ℕ) (s s1 s2 s3 s4 : G) where
    pub pedersen_sum-four : a < 2 ^ 64
        → b < 2 ^ 64
        → c < 2 ^ 64
        → s1 ≡ g.plus s (pedersen_sum g (drop 0 xs) (bits_of_number 64 a))
        → s2 ≡ g.plus s1 (pedersen_sum g (drop 64 xs) (bits_of_number 64 b))
        → s3 ≡ g.plus s2 (pedersen_sum g (drop 128 xs) (bits_of_number 64 c))
        → s4 ≡ g.plus s3 (pedersen_sum g (drop 192 xs) (bits_of_number 64 d))
        → s4 ≡ g.plus s (pedersen_sum g xs (bits_of_number 256 (four a b c d)))
    pedersen_sum-four a_fits b_fits c_fits e1 e2 e3 e4 =
        joined 0 192 a _ s s1 s4 a_fits e1 (joined 64 128 b _ s1 s2 s4 b_fits e2 (joined 128 64 c d s2 s3 s4 c_fits e3
        e4))
