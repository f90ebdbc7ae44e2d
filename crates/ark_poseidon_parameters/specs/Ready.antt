-- What ready parameters are: one element of capacity, and eight full rounds.
use Rattle.std.specs.Prelude.{◌≡◌, ℕ, ◌-◌, ◌==◌, if◌then◌else◌, [], ◌∷◌, get_or}
use Rattle.ark_sponge.specs.Permutation.{Parameters}

-- parameters of a rate, a capacity of one element, eight full rounds, so many partial ones, and an exponent
pub record AreReady (elements rounds exponent : ℕ) (c : Parameters) : Type 0 where
  pub rate : c.rate ≡ elements
  pub capacity : c.capacity ≡ 1
  pub full_rounds : c.full_rounds ≡ 8
  pub partial_rounds : c.partial_rounds ≡ rounds
  pub alpha : c.alpha ≡ exponent

-- ---- by rates from 2 to 8: the counts of partial rounds, and the exponents

-- the partial rounds over the scalar field of BLS12-381, by the rate
abbrev pub bls12_381_fr_rounds : ℕ → ℕ
bls12_381_fr_rounds rate = get_or (31 ∷ 56 ∷ 56 ∷ 57 ∷ 57 ∷ 57 ∷ 57 ∷ []) (rate - 2) 0

-- the exponent over the scalar field of BLS12-381, by the rate
abbrev pub bls12_381_fr_alpha : ℕ → ℕ
bls12_381_fr_alpha rate = if rate == 2 then 17 else 5

-- the partial rounds over the scalar field of BN254, by the rate
abbrev pub bn254_fr_rounds : ℕ → ℕ
bn254_fr_rounds rate = get_or (57 ∷ 56 ∷ 60 ∷ 60 ∷ 63 ∷ 64 ∷ 63 ∷ []) (rate - 2) 0
