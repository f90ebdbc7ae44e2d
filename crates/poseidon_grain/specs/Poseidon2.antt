-- The constants of Poseidon2, of the bits of the Grain LFSR, as the authors of Poseidon2 draw them: the register is
-- seeded as for Poseidon, and a partial round takes one constant.
use Rattle.std.specs.Prelude.{ℕ, ◌-◌, ◌/◌, List}
use Rattle.poseidon_grain.specs.Grain.{seeded, below_drawn, list_drawn}

-- The constants: a row for each full round before the partial ones, a number for each partial round, and a row for each
-- full round behind them.
pub record DrawnConstants : Type 0 where
  pub first : List (List ℕ)
  pub partial : List ℕ
  pub last : List (List ℕ)

-- the constants below a modulus of so many digits for a width and counts of rounds; half of the full rounds, rounded
-- down, stand before the partial ones
unfoldable pub poseidon2_drawn : ℕ → ℕ → ℕ → ℕ → ℕ → DrawnConstants
poseidon2_drawn p digits width full partial =
    let element = below_drawn p digits in
    let row = list_drawn element width in
    let first = list_drawn row (full / 2) (seeded digits width full partial) in
    let middle = list_drawn element partial first.1 in
    let last = list_drawn row (full - full / 2) middle.1 in
    record { first = first.0; partial = middle.0; last = last.0 }
