-- Which parameters are ready, by their counts.
use Rattle.std.specs.Prelude.{ℕ, ◌-◌, ◌==◌, ◌||◌, nat_lt, Bool, if◌then◌else◌, List, [], ◌∷◌, get_or, Option, Some, None}

-- the exponent of the S-box, and the counts of full and of partial rounds
pub record Counts : Type 0 where
  pub exponent : ℕ
  pub full : ℕ
  pub partial : ℕ

-- what stands at a place of a list that begins with place 2, up to 8
abbrev pub from_2_to_8 : List ℕ → ℕ → ℕ
from_2_to_8 numbers rate = get_or numbers (rate - 2) 0

-- Over the scalar field of BLS12-381 and for a rate of 2 to 8, as arkworks has them: with few products, or with few
-- rounds, as the flag says.
abbrev pub bls12_381_fr_counts : ℕ → Bool → Option Counts
bls12_381_fr_counts rate few_rounds =
    if nat_lt rate 2 || nat_lt 8 rate then None
    else if few_rounds then Some (record { exponent = 257; full = 8; partial = 13 })
    else Some (record {
      exponent = if rate == 2 then 17 else 5;
      full = 8;
      partial = from_2_to_8 (31 ∷ 56 ∷ 56 ∷ 57 ∷ 57 ∷ 57 ∷ 57 ∷ []) rate;
    })

-- the partial rounds of circomlib's hash by the count of its inputs, from one on
abbrev pub circom_rounds : ℕ → ℕ
circom_rounds inputs =
    get_or (56 ∷ 57 ∷ 56 ∷ 60 ∷ 60 ∷ 63 ∷ 64 ∷ 63 ∷ 60 ∷ 66 ∷ 60 ∷ 65 ∷ 70 ∷ 60 ∷ 64 ∷ 68 ∷ []) (inputs - 1) 0
