-- Sums of the elements at the set bits of a number, from its lowest set bit on.
use Rattle.std.proofs.Common.{◌≡◌, ℕ, zero, suc, ◌+◌, ◌-◌, ◌*◌, ◌/◌, ◌%◌, ◌^◌, ◌<◌, ◌≤◌, Bool, true, false, eqb, List, [], ◌∷◌, ◌++◌, length, take, drop, get_or, length-drop, get_or-drop, refl, sym, ap, subst, ◌∙◌, lit<, arith, inl, inr}
use Rattle.std.specs.Int.{w64}
use Rattle.std.specs.Int.Bits.{bit_and, and_step, and_self}
use Rattle.std.specs.Int.Count.{count_trailing_zeros, under}
use Rattle.std.proofs.Math.Nat.{pow-suc}
use Rattle.std.proofs.lemmas.Bool.{cases_lt}
use Rattle.std.proofs.lemmas.List.{length-take-le, take-append-drop}
use Rattle.std.proofs.lemmas.List.Concat.{flat_map-append}
use Rattle.std.proofs.lemmas.Nat.{pow-add}
use Rattle.std.proofs.lemmas.Nat.Bits.{bit_at-trailing_zeros, bit_at_above}
use Rattle.ark_base.specs.Reading.{IsBytes}
use Rattle.ark_base.specs.Digits.{number_of_bytes}
use Rattle.ark_base.specs.Laws.Steps.{IsBytes-take}
use Rattle.ark_groups.specs.Group.{Group, IsCommutativeGroup}
use Rattle.ark_groups.specs.Bits.{bits_of_number}
use Rattle.ark_pedersen.specs.Pedersen.{bits_of_bytes, pedersen_sum}
use Rattle.ark_pedersen.proofs.PedersenSums.{pedersen_sum-behind}

-- ---- bits of a number

pub length-bits_of_number : (k n : ℕ) → length (bits_of_number k n) ≡ k
unfolding bits_of_number
length-bits_of_number zero n = refl
length-bits_of_number (suc k) n = ap suc (length-bits_of_number k (n / 2))

-- the digits of a number that is put together of two
pub bits_of_number-add : (k m low high : ℕ) → low < 2 ^ k → bits_of_number (k + m) (low + 2 ^ k * high) ≡ bits_of_number
    k low ++ bits_of_number m high
unfolding bits_of_number
bits_of_number-add zero m low high fits =
    let none : low + 2 ^ 0 * high ≡ high = omega arith in
    let here : 0 + m ≡ m = omega arith in
    ap (λ (i : ℕ). bits_of_number i (low + 2 ^ 0 * high)) here ∙ ap (bits_of_number m) none
bits_of_number-add (suc k) m low high fits =
    let one : suc k + m ≡ suc (k + m) = omega arith in
    let power : 2 ^ suc k ≡ 2 ^ k * 2 = pow-suc 2 k in
    let twice : 2 ^ suc k * high ≡ 2 * (2 ^ k * high) = ap (λ (p : ℕ). p * high) power ∙ grind arith in
    let digit : (low + 2 ^ suc k * high) % 2 ≡ low % 2 = omega arith in
    let rest : (low + 2 ^ suc k * high) / 2 ≡ low / 2 + 2 ^ k * high = omega arith in
    let small : low / 2 < 2 ^ k = omega arith in
    ap (λ (i : ℕ). bits_of_number i (low + 2 ^ suc k * high)) one
    ∙ ap (λ (d : ℕ). eqb d 1 ∷ bits_of_number (k + m) ((low + 2 ^ suc k * high) / 2)) digit
    ∙ ap (λ (r : ℕ). eqb (low % 2) 1 ∷ bits_of_number (k + m) r) rest
    ∙ ap (λ (t : List Bool). eqb (low % 2) 1 ∷ t) (bits_of_number-add k m (low / 2) high small)

-- the digits of bytes are those of their number
pub bits_of_bytes-number : (bytes : List ℕ) → IsBytes bytes → bits_of_bytes bytes ≡ bits_of_number (8 * length bytes)
    (number_of_bytes bytes)
unfolding bits_of_number
bits_of_bytes-number [] fits = refl
bits_of_bytes-number (b ∷ bytes) fits =
    let more : 8 * length (b ∷ bytes) ≡ 8 + 8 * length bytes = omega arith in
    let here : b < 256 = fits 0 in
    ap (λ t. bits_of_number 8 b ++ t) (bits_of_bytes-number bytes (λ i. fits (suc i)))
    ∙ sym (ap (λ (k : ℕ). bits_of_number k (b + 256 * number_of_bytes bytes)) more ∙ bits_of_number-add 8
    (8 * length bytes) b (number_of_bytes bytes) here)

-- bytes are a number of as many digits as they have bits
pub number_of_bytes-below : (bytes : List ℕ) → IsBytes bytes → number_of_bytes bytes < 2 ^ (8 * length bytes)
number_of_bytes-below [] fits = lit< tt
number_of_bytes-below (b ∷ bytes) fits =
    let here : b < 256 = fits 0 in
    let behind = number_of_bytes-below bytes (λ i. fits (suc i)) in
    let more : 8 * length (b ∷ bytes) ≡ 8 * length bytes + 8 = omega arith in
    let power = ap (λ (k : ℕ). 2 ^ k) more ∙ pow-add 2 (8 * length bytes) 8 in
    omega arith

-- ---- the lowest set bit

-- `n & (n - 1)` of an odd number is even, with the same half
and_odd : (n : ℕ) → n % 2 ≡ 1 → (bit_and n (n - 1) % 2 ≡ 0) × (bit_and n (n - 1) / 2 ≡ n / 2)
and_odd n odd =
    let half : (n - 1) / 2 ≡ n / 2 = omega arith in
    let step = and_step n (n - 1) in
    let same = ap (bit_and (n / 2)) half ∙ and_self (n / 2) in
    (omega arith, omega arith)

-- of an even one it is even, and its half that of the half
and_even : (n : ℕ) → 0 < n → n % 2 ≡ 0 → (bit_and n (n - 1) % 2 ≡ 0) × (bit_and n (n - 1) / 2 ≡ bit_and (n / 2)
    (n / 2 - 1))
and_even n some even =
    let half : (n - 1) / 2 ≡ n / 2 - 1 = omega arith in
    let step = and_step n (n - 1) in
    let same = ap (bit_and (n / 2)) half in
    (omega arith, omega arith)

-- it stands below where the number's digits end
pub trailing_below : (k n : ℕ) → 0 < n → n < 2 ^ 64 → n < 2 ^ k → count_trailing_zeros 64 n < k
trailing_below k n some fits small =
    let at = bit_at-trailing_zeros w64 n some fits in
    elim (cases_lt (count_trailing_zeros 64 n) k) [
      | inl lt ↦ lt
      | inr le ↦ let none = bit_at_above n k (count_trailing_zeros 64 n) small le in absurd (omega (arith, at.1, none))
    ]

-- ---- sums

module _ {G : Type 0} (g : Group G) where
  pub pedersen_sum-zero : (xs : List G) (k : ℕ) → pedersen_sum g xs (bits_of_number k 0) ≡ g.identity
  unfolding pedersen_sum bits_of_number
  pedersen_sum-zero [] k = refl
  pedersen_sum-zero (x ∷ xs) zero = refl
  pedersen_sum-zero (x ∷ xs) (suc k) = pedersen_sum-zero xs k

  -- digits above a number's own add nothing
  pub pedersen_sum-more : (xs : List G) (k m n : ℕ) → n < 2 ^ k → pedersen_sum g xs (bits_of_number (k + m) n)
      ≡ pedersen_sum g xs (bits_of_number k n)
  unfolding pedersen_sum bits_of_number
  pedersen_sum-more [] k m n fits = refl
  pedersen_sum-more (x ∷ xs) zero m n fits =
      let none : n ≡ 0 = omega arith in
      rw none (pedersen_sum-zero (x ∷ xs) (0 + m))
  pedersen_sum-more (x ∷ xs) (suc k) m n fits =
      let one : suc k + m ≡ suc (k + m) = omega arith in
      rw one (by_bit (eqb (n % 2) 1) (pedersen_sum-more xs k m (n / 2) (omega (arith, pow-suc 2 k))))
    where
      by_bit : (b : Bool) → pedersen_sum g xs (bits_of_number (k + m) (n / 2)) ≡ pedersen_sum g xs
          (bits_of_number k (n / 2))
          → pedersen_sum g (x ∷ xs) (b ∷ bits_of_number (k + m) (n / 2)) ≡ pedersen_sum g (x ∷ xs)
          (b ∷ bits_of_number k (n / 2))
      by_bit true h = ap (g.plus x) h
      by_bit false h = h

  -- the element at the lowest set bit, and those at the others
  pub pedersen_sum-lowest : (xs : List G) (d : G) (k n : ℕ) → 0 < n → n < 2 ^ k → count_trailing_zeros k n < length xs
      → pedersen_sum g xs (bits_of_number k n) ≡ g.plus (get_or xs (count_trailing_zeros k n) d)
      (pedersen_sum g xs (bits_of_number k (bit_and n (n - 1))))
  unfolding pedersen_sum bits_of_number count_trailing_zeros
  pedersen_sum-lowest [] d k n some fits within = absurd (omega arith)
  pedersen_sum-lowest (x ∷ xs) d zero n some fits within = absurd (omega arith)
  pedersen_sum-lowest (x ∷ xs) d (suc k) n some fits within =
      by_digit (n % 2) refl (λ more below. pedersen_sum-lowest xs d k (n / 2) more (omega (arith, pow-suc 2 k))
      below) within
    where
      by_digit : (e : ℕ) → n % 2 ≡ e
          → (0 < n / 2 → count_trailing_zeros k (n / 2) < length xs
          → pedersen_sum g xs (bits_of_number k (n / 2)) ≡ g.plus (get_or xs (count_trailing_zeros k (n / 2)) d)
          (pedersen_sum g xs (bits_of_number k (bit_and (n / 2) (n / 2 - 1)))))
          → under e (count_trailing_zeros k (n / 2)) < suc (length xs)
          → pedersen_sum g (x ∷ xs) (eqb e 1 ∷ bits_of_number k (n / 2))
          ≡ g.plus (get_or (x ∷ xs) (under e (count_trailing_zeros k (n / 2))) d) (pedersen_sum g (x ∷ xs)
          (eqb (bit_and n (n - 1) % 2) 1 ∷ bits_of_number k (bit_and n (n - 1) / 2)))
      by_digit zero even half below =
          let a = and_even n some even in
          rw (a.0, a.1) (half (omega arith) (omega arith))
      by_digit (suc zero) odd half below =
          let a = and_odd n odd in
          rw (a.0, a.1) refl
      by_digit (suc (suc e)) odd half below = absurd (omega arith)

-- The sum over bytes is that over the word of the first of them and that over the others.
pub pedersen_sum-word : {G : Type 0} {g : Group G} (laws : IsCommutativeGroup g) (xs : List G) (bytes : List ℕ) (n : ℕ)
    → IsBytes bytes → n ≤ length bytes → n ≤ 8
    → pedersen_sum g xs (bits_of_bytes bytes) ≡ g.plus (pedersen_sum g xs
    (bits_of_number 64 (number_of_bytes (take n bytes)))) (pedersen_sum g (drop (8 * n) xs)
    (bits_of_bytes (drop n bytes)))
pedersen_sum-word {G} {g} laws xs bytes n fits within short =
    let front = take n bytes in
    let word = number_of_bytes front in
    let len : length front ≡ n = length-take-le n bytes within in
    let front_fits = IsBytes-take n bytes fits in
    let below : word < 2 ^ (8 * n) = subst (λ (k : ℕ). word < 2 ^ (8 * k)) len (number_of_bytes-below front
    front_fits) in
    let digits : bits_of_bytes front ≡ bits_of_number (8 * n) word =
    bits_of_bytes-number front front_fits ∙ ap (λ (k : ℕ). bits_of_number (8 * k) word) len in
    let long : length (bits_of_number (8 * n) word) ≡ 8 * n = length-bits_of_number (8 * n) word in
    let whole : 64 ≡ 8 * n + (64 - 8 * n) = omega arith in
    let behind : List Bool = bits_of_bytes (drop n bytes) in
    ap (λ (t : List ℕ). pedersen_sum g xs (bits_of_bytes t)) (sym (take-append-drop n bytes))
    ∙ ap (pedersen_sum g xs) (flat_map-append (bits_of_number 8) front (drop n bytes)
    ∙ ap (λ (t : List Bool). t ++ behind) digits)
    ∙ pedersen_sum-behind laws xs (bits_of_number (8 * n) word) behind
    ∙ ap (λ (k : ℕ). g.plus (pedersen_sum g xs (bits_of_number (8 * n) word)) (pedersen_sum g (drop k xs) behind)) long
    ∙ ap (λ (s : G). g.plus s (pedersen_sum g (drop (8 * n) xs) behind))
    (sym (ap (λ (k : ℕ). pedersen_sum g xs (bits_of_number k word)) whole ∙ pedersen_sum-more g xs (8 * n)
    (64 - 8 * n) word below))

-- ---- the element at the lowest set bit

-- the lowest set bit stands at an element
pub place_in : (first all rest word : ℕ) → 0 < rest → rest < 2 ^ 64 → rest ≤ word → word < 2 ^ (all - first)
    → first + count_trailing_zeros 64 rest < all
place_in first all rest word some fits below small =
    let low = trailing_below (all - first) rest some fits (omega arith) in
    omega arith

-- its element is added
pub lowest_added : {G : Type 0} {g : Group G} (laws : IsCommutativeGroup g) (xs : List G) (sum x : G) (first rest : ℕ)
    → 0 < rest → rest < 2 ^ 64 → first + count_trailing_zeros 64 rest < length xs
    → x ≡ get_or xs (first + count_trailing_zeros 64 rest) x
    → g.plus (g.plus sum x) (pedersen_sum g (drop first xs) (bits_of_number 64 (bit_and rest (rest - 1))))
    ≡ g.plus sum (pedersen_sum g (drop first xs) (bits_of_number 64 rest))
lowest_added {G} {g} laws xs sum x first rest some fits within is =
    let t = count_trailing_zeros 64 rest in
    let others : G = pedersen_sum g (drop first xs) (bits_of_number 64 (bit_and rest (rest - 1))) in
    let low : t < length (drop first xs) = omega (arith, length-drop first xs) in
    let here : get_or (drop first xs) t x ≡ x = get_or-drop first xs t x ∙ sym is in
    laws.assoc _ _ _ ∙ ap (g.plus sum) (sym (pedersen_sum-lowest g (drop first xs) x 64 rest some fits low
    ∙ ap (λ (y : G). g.plus y others) here))
