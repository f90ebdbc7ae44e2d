-- Pedersen commitments over generators that are elements with their doublings, and their sums.
use Rattle.std.proofs.Common.{◌≡◌, ℕ, zero, suc, ◌+◌, ◌-◌, ◌*◌, ◌/◌, ◌%◌, ◌^◌, ◌<◌, ◌≤◌, Bool, true, false, cond, eqb, if◌then◌else◌, List, length, take, Ok, Err, refl, sym, ap, ◌∙◌, arith, nat_lt}
use Rattle.std.proofs.Math.Nat.{pow-suc}
use Rattle.std.proofs.lemmas.Bool.{eq-eqb}
use Rattle.ark_base.specs.Outcome.{Outcome, ◌>>=◌}
use Rattle.ark_base.specs.declared.error.Error.TheVariants.{IncorrectInputLength, GenericError}
use Rattle.ark_base.specs.declared.error.Refusal.TheVariants.{ParameterShape}
use Rattle.ark_groups.specs.Field.{IsFieldModulus, IsField}
use Rattle.ark_groups.specs.Group.{Group, IsCommutativeGroup, times}
use Rattle.ark_groups.proofs.Multiples.{swap_last, times-add, times-mod}
use Rattle.ark_groups.specs.Bits.{bits_of_number, number_of_bits}
use Rattle.ark_pedersen.specs.Pedersen.{bits_of_bytes, pedersen_sum, doublings, window_bits, concatenation, has_shape, AreGeneratorsOf, pedersen_hash}
use Rattle.ark_pedersen.specs.declared.window.Window.{Ghosts as Windows}
use Rattle.ark_pedersen.proofs.BitSums.{pedersen_sum-more}
use Rattle.ark_pedersen.proofs.Halves.{length-bits_of_bytes}
use Rattle.ark_pedersen.proofs.Iterates.{length-iterates}
use Rattle.ark_pedersen.proofs.PedersenSums.{pedersen_sum-doublings, pedersen_sum-union}
use Rattle.ark_pedersen.proofs.Windows.{pedersen_hash-windows}
use Rattle.ark_schemes.specs.PedersenCommitments.{Generators, randomness_sum, pedersen_commitment, windows_commitment, sum_of, IsUnion}

-- ---- bits

-- a number is the number of its digits
number_of_digits : (k n : ℕ) → n < 2 ^ k → number_of_bits (take k (bits_of_number k n)) ≡ n
unfolding number_of_bits bits_of_number
number_of_digits zero n fits = omega arith
number_of_digits (suc k) n fits =
    let half : n / 2 < 2 ^ k = omega (arith, pow-suc 2 k) in
    by_digit (n % 2) refl (number_of_digits k (n / 2) half)
  where
    by_digit : (d : ℕ) → n % 2 ≡ d → number_of_bits (take k (bits_of_number k (n / 2))) ≡ n / 2 → cond (eqb d 1) 1 0 + 2
        * number_of_bits (take k (bits_of_number k (n / 2))) ≡ n
    by_digit zero even rest = omega arith
    by_digit (suc zero) odd rest = omega arith
    by_digit (suc (suc d)) more rest = absurd (omega arith)

-- a scalar has no more digits than the modulus
pub value_fits : {F : Type 0} (p bits : ℕ) (value : F → ℕ) → IsFieldModulus p bits → IsField p value → (x : F)
    → value x < 2 ^ bits
value_fits p bits value laws field x = omega (arith, laws.digits.no_more, field.below x)

-- ---- commitments

module _ {G : Type 0} (g : Group G) (bits : ℕ) where
  randomness_sum-long : (elements : List G) (n : ℕ) → length elements ≡ bits
      → randomness_sum g bits elements n ≡ Ok (pedersen_sum g elements (bits_of_number bits n))
  randomness_sum-long elements n long =
      let sum : Outcome G = Ok (pedersen_sum g elements (bits_of_number bits n)) in
      ap (λ (full : Bool). cond full sum (Err (GenericError ParameterShape))) (eq-eqb _ _ long)

  -- a commitment is a hash with the sum at the digits of four words
  pub pedersen_commitment-words : {W : Type 0} (windows : Windows W) (lists : Generators G) (input : List ℕ) (n : ℕ)
      (hash sum : G)
      → n < 2 ^ bits → bits ≤ 256 → length lists.randomness ≡ bits → pedersen_hash g windows lists.windows
      input ≡ Ok hash
      → sum ≡ g.plus hash (pedersen_sum g lists.randomness (bits_of_number 256 n)) → Ok sum ≡ pedersen_commitment g bits
      windows lists input n
  pedersen_commitment-words windows lists input n hash sum fits in_words long hash_is is =
      let words : 256 ≡ bits + (256 - bits) = omega arith in
      let digits = ap (λ (k : ℕ). pedersen_sum g lists.randomness (bits_of_number k n)) words ∙ pedersen_sum-more g
      lists.randomness bits (256 - bits) n fits in
      let with_hash : G → Outcome G = λ y. Ok (g.plus hash y) in
      ap (λ (x : G). let o : Outcome G = Ok x in o) (is ∙ ap (g.plus hash) digits)
      ∙ sym (ap (λ (o : Outcome G). o >>= with_hash) (randomness_sum-long lists.randomness n long))
      ∙ ap (λ (o : Outcome G). o >>= λ x. randomness_sum g bits lists.randomness n >>= λ y. Ok (g.plus x y))
      (sym hash_is)

then_same : {A B : Type 0} (outcome : Outcome A) (next other : A → Outcome B) → ((a : A) → next a ≡ other a)
    → (outcome >>= next) ≡ (outcome >>= other)
then_same (Ok a) next other same = same a
then_same (Err e) next other same = refl

-- where the elements for the randomness are one with its doublings
module _ {G W : Type 0} {g : Group G} (laws : IsCommutativeGroup g) (bits : ℕ) (windows : Windows W)
    (lists : Generators G) (element : G) (doubled : lists.randomness ≡ doublings g bits element) where
  abbrev with_multiple : ℕ → Outcome G → Outcome G
  with_multiple n hash = hash >>= (λ x. Ok (g.plus x (times g n element)))

  -- a commitment is the hash and n times that element
  as_multiple : (input : List ℕ) (n : ℕ) → n < 2 ^ bits → pedersen_commitment g bits windows lists input n
      ≡ with_multiple n (pedersen_hash g windows lists.windows input)
  as_multiple input n fits =
      then_same (pedersen_hash g windows lists.windows input) with_sum (λ (x : G). let o : Outcome G = Ok
      (g.plus x (times g n element)) in o)
      (λ x. ap (λ (o : Outcome G). o >>= λ y. Ok (g.plus x y)) sum_is)
    where
      with_sum : G → Outcome G
      with_sum x = randomness_sum g bits lists.randomness n >>= λ y. Ok (g.plus x y)

      sum : pedersen_sum g (doublings g bits element) (bits_of_number bits n) ≡ times g n element
      sum = pedersen_sum-doublings laws bits element (bits_of_number bits n) ∙ ap (λ (m : ℕ). times g m element)
          (number_of_digits bits n fits)

      sum_is : randomness_sum g bits lists.randomness n ≡ Ok (times g n element)
      sum_is =
          ap (λ (elements : List G). randomness_sum g bits elements n) doubled
          ∙ randomness_sum-long g bits (doublings g bits element) n (length-iterates (λ y. g.plus y y) bits element)
          ∙ ap (λ (y : G). let o : Outcome G = Ok y in o) sum

  -- so is a hash with n times that element added
  pub commitment-by_multiple : (input : List ℕ) (n : ℕ) (hash sum : G) → n < 2 ^ bits
      → pedersen_hash g windows lists.windows input ≡ Ok hash → sum ≡ g.plus hash (times g n element)
      → ◌≡◌ {A = Outcome G} (Ok sum) (pedersen_commitment g bits windows lists input n)
  commitment-by_multiple input n hash sum fits hash_is is =
      let make : G → Outcome G = λ x. Ok x in
      ap make is ∙ ap (with_multiple n) (sym hash_is) ∙ sym (as_multiple input n fits)

  -- the sum over the windows, and n times the element
  pub pedersen_commitment-windows : (elements : List G) (input : List ℕ) (n : ℕ) → n < 2 ^ bits → AreGeneratorsOf g
      windows elements lists.windows
      → pedersen_commitment g bits windows lists input n ≡ windows_commitment g windows element elements input n
  pedersen_commitment-windows elements input n fits are =
      as_multiple input n fits ∙ ap (with_multiple n) (pedersen_hash-windows g windows elements lists.windows
      input laws are)

  -- ---- sums

  abbrev is_long : ℕ → Bool
  is_long len = nat_lt (window_bits windows) (8 * len)

  abbrev shaped : Bool
  shaped = has_shape windows.NUM_WINDOWS windows.WINDOW_SIZE lists.windows

  hash_of : Bool → Bool → ℕ → G → Outcome G
  hash_of long full len x = if long then Err (IncorrectInputLength len) else if full then Ok x else Err
      (GenericError ParameterShape)

  hash_of-plus : (long full : Bool) (len : ℕ) (a b : G) (n r s : ℕ) → times g n element ≡ g.plus (times g r element)
      (times g s element)
      → with_multiple n (hash_of long full len (g.plus a b)) ≡ sum_of g (with_multiple r (hash_of long full len a))
      (with_multiple s (hash_of long full len b))
  unfolding hash_of
  hash_of-plus true full len a b n r s e = refl
  hash_of-plus false false len a b n r s e = refl
  hash_of-plus false true len a b n r s e =
      let x = times g r element in
      let y = times g s element in
      ap Ok (ap (g.plus (g.plus a b)) e ∙ sym (laws.assoc (g.plus a b) x y) ∙ ap (λ (z : G). g.plus z y)
      (swap_last laws a b x) ∙ laws.assoc (g.plus a x) b y)

  -- the commitment to a union is the sum of commitments
  pub pedersen_commitment-union : (p : ℕ) (input left right : List ℕ) (n r s : ℕ) → times g p element ≡ g.identity
      → n < 2 ^ bits → r < 2 ^ bits → s < 2 ^ bits → IsUnion input left right → n ≡ (r + s) % p
      → pedersen_commitment g bits windows lists input n ≡ sum_of g (pedersen_commitment g bits windows lists left r)
      (pedersen_commitment g bits windows lists right s)
  unfolding hash_of
  pedersen_commitment-union p input left right n r s order n_fits r_fits s_fits whole is =
      as_multiple input n n_fits
      ∙ ap (λ (x : G). with_multiple n (hash (length input) x)) sums
      ∙ hash_of-plus (is_long (length input)) shaped (length input) (sum left) (sum right) n r s multiples
      ∙ (λ i. sum_of g (with_multiple r (hash (sym whole.as_long_left i) (sum left)))
      (with_multiple s (hash (sym whole.as_long_right i) (sum right))))
      ∙ (λ i. sum_of g (sym (as_multiple left r r_fits) i) (sym (as_multiple right s s_fits) i))
    where
      sum : List ℕ → G
      sum bytes = pedersen_sum g (concatenation lists.windows) (bits_of_bytes bytes)

      hash : ℕ → G → Outcome G
      hash len x = hash_of (is_long len) shaped len x

      sums : sum input ≡ g.plus (sum left) (sum right)
      sums =
          let long : length (bits_of_bytes left) ≡ length (bits_of_bytes right) =
          omega (
            arith,
            length-bits_of_bytes left,
            length-bits_of_bytes right,
            whole.as_long_left,
            whole.as_long_right,
          ) in
          ap (pedersen_sum g (concatenation lists.windows)) whole.bits ∙ pedersen_sum-union laws
          (concatenation lists.windows) (bits_of_bytes left) (bits_of_bytes right) long whole.apart

      multiples : times g n element ≡ g.plus (times g r element) (times g s element)
      multiples = ap (λ (k : ℕ). times g k element) is ∙ times-mod laws p (r + s) element order ∙ times-add laws
          r s element
