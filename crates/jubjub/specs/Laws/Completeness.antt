-- Jubjub is complete: -1 is a square modulo p, and d is none.
use Rattle.std.proofs.Common.{◌-◌, ◌/◌, refl, lit<}
use Rattle.edwards.specs.Curves.{IsComplete}
use Rattle.edwards.specs.Laws.CurveLaws.{NoCrossIsOne}
use Rattle.edwards.specs.Laws.Completeness as curves
use Rattle.ark_wide_fields.specs.Laws.Bls12_381Fr.{prime_factors, generates}
use Rattle.jubjub.specs.Jubjub.{p, d}
use Rattle.jubjub.specs.Laws.Modulus.{d_is_no_square}

unfoldable pub jubjub_is_complete : IsComplete p d
jubjub_is_complete = record {
  generator = 7;
  factors = prime_factors;
  generates = generates;
  big = lit< tt;
  half = (p - 1) / 2;
  halves = refl;
  root = 3465144826073652318776269530687742778270252468765361963008;
  root_below = lit< tt;
  root_of_minus_one = refl;
  other_root = refl;
  no_square = d_is_no_square;
}

-- no denominator of a sum is 0
pub complete : NoCrossIsOne p d
complete = curves.complete p d jubjub_is_complete
