-- Baby Jubjub with the first coefficient -1 is complete: -1 is a square modulo p, and d is none.
use Rattle.std.proofs.Common.{◌-◌, ◌/◌, refl, lit<, lit≤}
use Rattle.edwards.specs.Curves.{IsComplete}
use Rattle.ark_wide_fields.specs.Laws.Bn254Fr.{prime_factors, generates}
use Rattle.baby_jubjub.specs.BabyJubjub.{p, d, factor, one_over_factor}
use Rattle.baby_jubjub.specs.Scaled.{IsFactor}

pub baby_jubjub_is_complete : IsComplete p d
baby_jubjub_is_complete = record {
  generator = 5;
  factors = prime_factors;
  generates = generates;
  big = lit< tt;
  half = (p - 1) / 2;
  halves = refl;
  root = 4407920970296243842541313971887945403937097133418418784715;
  root_below = lit< tt;
  root_of_minus_one = refl;
  other_root = refl;
  no_square = refl;
}

-- the factor of the first coordinate
pub baby_jubjub_factor : IsFactor p 168700 168696 d factor one_over_factor
baby_jubjub_factor = record { two = lit≤ tt; square = refl; coefficient = refl; inverse = refl }
