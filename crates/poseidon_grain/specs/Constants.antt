-- The constants and the matrix of Poseidon, of the bits of the Grain LFSR (the Poseidon paper, section 2.3 and
-- appendix F).
use Rattle.std.specs.Prelude.{◌≡◌, ℕ, ◌+◌, ◌*◌, ◌%◌, ◌==◌, ◌<◌, ◌&&◌, nat_lt, ◌≤◌, Bool, true, false, ◌||◌, ◌⊎◌, List, [], ◌∷◌, length, map, get_or}
use Rattle.std.specs.List.{list_any}
use Rattle.ark_base.specs.declared.error.Error.{Error}
use Rattle.ark_base.specs.declared.error.Error.TheVariants.{GenericError, OutOfMemory}
use Rattle.ark_base.specs.declared.error.Refusal.TheVariants.{FieldTooSmall, ParameterShape, ZeroRate}
use Rattle.ark_sponge.specs.Permutation.{Parameters}
use Rattle.ark_wide_fields.specs.Inverses.{AreInverses}
use Rattle.poseidon_grain.specs.Grain.{seeded, below_drawn, remainder_drawn, list_drawn}

-- An instance of Poseidon, as the generator is asked for it: the modulus, its count of digits, the width of a state,
-- the counts of rounds, and how many matrices are passed over.
pub record Instance : Type 0 where
  pub modulus : ℕ
  pub digits : ℕ
  pub width : ℕ
  pub full_rounds : ℕ
  pub partial_rounds : ℕ
  pub passed_over : ℕ

-- a row of constants below the modulus for each round, and the register behind them
abbrev pub constants_drawn : Instance → List (List ℕ) × ℕ
constants_drawn a =
    let row = list_drawn (below_drawn a.modulus a.digits) a.width in
    list_drawn row (a.full_rounds + a.partial_rounds) (seeded a.digits a.width a.full_rounds a.partial_rounds)

-- so many numbers modulo the modulus, and the register behind them
abbrev pub remainders_drawn : Instance → ℕ → ℕ → List ℕ × ℕ
remainders_drawn a count register = list_drawn (remainder_drawn a.modulus a.digits) count register

-- The first list of the matrix, a number for each element of a state, behind two such lists for each matrix that is
-- passed over.
abbrev pub xs_drawn : Instance → List ℕ × ℕ
xs_drawn a =
    remainders_drawn a a.width (remainders_drawn a (2 * a.width * a.passed_over) (constants_drawn a).1).1

-- the second list of the matrix
abbrev pub ys_drawn : Instance → List ℕ × ℕ
ys_drawn a = remainders_drawn a a.width (xs_drawn a).1

-- ---- the matrix

-- each number of a list added to one, modulo p
abbrev pub sums_with : ℕ → ℕ → List ℕ → List ℕ
sums_with p x ys = map (λ y. (x + y) % p) ys

-- a Cauchy matrix: in the row of each number of the first list stand the inverses of its sums with those of the second
pub record IsCauchy (p : ℕ) (xs ys : List ℕ) (rows : List (List ℕ)) : Type 0 where
  pub long : length rows ≡ length xs
  pub each : (i : ℕ) → i < length xs → AreInverses p (sums_with p (get_or xs i 0) ys) (get_or rows i [])

-- a number stands twice in a list
unfoldable pub has_twice : List ℕ → Bool
has_twice [] = false
has_twice (x ∷ xs) = list_any (λ y. x == y) xs || has_twice xs

-- a number of the first list and one of the second have the sum 0 modulo p
abbrev pub MeetsZero : ℕ → List ℕ → List ℕ → Type 0
MeetsZero p xs ys =
    (i j : ℕ) × (i < length xs) × (j < length ys) × ((get_or xs i 0 + get_or ys j 0) % p ≡ 0)

-- Two lists give no matrix whose inverse exists: two rows or two columns would be the same, or a number have no
-- inverse.
abbrev pub IsRefused : ℕ → List ℕ → List ℕ → Type 0
IsRefused p xs ys = (has_twice xs ≡ true) ⊎ (has_twice ys ≡ true) ⊎ MeetsZero p xs ys

-- a number of a list is 0
abbrev pub HasZero : List ℕ → Type 0
HasZero xs = (i : ℕ) × (i < length xs) × (get_or xs i 0 ≡ 0)

-- ---- what is asked for, and what is answered

-- The counts fit: a width of two or more and below 2^12, counts of rounds below 2^10, of which a full one, and fewer
-- than 2^16 matrices to be passed over.
abbrev pub counts_fit : ℕ → ℕ → ℕ → ℕ → Bool
counts_fit width full partial passed_over =
    nat_lt 1 width && nat_lt width 4096 && nat_lt 0 full && nat_lt full 1024 && nat_lt partial 1024
    && nat_lt passed_over 65536

-- the constants and the matrix are those of the generator
pub record AreGenerated (a : Instance) (ark mds : List (List ℕ)) : Type 0 where
  pub constants : ark ≡ (constants_drawn a).0
  pub matrix : IsCauchy a.modulus (xs_drawn a).0 (ys_drawn a).0 mds
  pub rows : has_twice (xs_drawn a).0 ≡ false
  pub columns : has_twice (ys_drawn a).0 ≡ false

-- the generator's matrix is refused
abbrev pub IsMatrixRefused : Instance → Type 0
IsMatrixRefused a = IsRefused a.modulus (xs_drawn a).0 (ys_drawn a).0

-- the instance over a modulus with its count of digits
abbrev pub instance_of : ℕ → ℕ → ℕ → ℕ → ℕ → ℕ → Instance
instance_of modulus digits width full partial passed_over = record {
  modulus = modulus;
  digits = digits;
  width = width;
  full_rounds = full;
  partial_rounds = partial;
  passed_over = passed_over;
}

-- parameters of a rate and a capacity, over the generator's constants and matrix
pub record AreParameters (a : Instance) (elements hidden exponent : ℕ) (c : Parameters) : Type 0 where
  pub generated : AreGenerated a c.ark c.mds
  pub rate : c.rate ≡ elements
  pub capacity : c.capacity ≡ hidden
  pub full_rounds : c.full_rounds ≡ a.full_rounds
  pub partial_rounds : c.partial_rounds ≡ a.partial_rounds
  pub alpha : c.alpha ≡ exponent

-- ---- why there are no parameters

-- Counts that fit are refused: for a lack of memory, for a modulus of so few digits that no sponge takes it, or else
-- for a rate of 0.
abbrev pub IsParameterFault : ℕ → ℕ → Error → Type 0
IsParameterFault digits rate error =
    (error ≡ OutOfMemory)
    ⊎ ((digits < 9) × (error ≡ GenericError FieldTooSmall))
    ⊎ ((9 ≤ digits) × (rate ≡ 0) × (error ≡ GenericError ZeroRate))

-- Counts that stand fixed are refused: for a lack of memory, or for the generator's matrix.
abbrev pub IsMatrixFault : Instance → Error → Type 0
IsMatrixFault a error =
    (error ≡ OutOfMemory) ⊎ (IsMatrixRefused a × (error ≡ GenericError ParameterShape))
