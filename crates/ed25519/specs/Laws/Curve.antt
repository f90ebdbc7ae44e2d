-- edwards25519 is complete: -1 is a square modulo p, and d is none.
use Rattle.std.proofs.Common.{◌-◌, ◌/◌, refl, lit<}
use Rattle.edwards.specs.Curves.{IsComplete}
use Rattle.ed25519.specs.Edwards25519.{p, d, square_root_of_minus_one}
use Rattle.ed25519.specs.Laws.ModulusPrime.{factors_p, generates_p}

pub ed25519_is_complete : IsComplete p d
ed25519_is_complete = record {
  generator = 2;
  factors = factors_p;
  generates = generates_p;
  big = lit< tt;
  half = (p - 1) / 2;
  halves = refl;
  root = square_root_of_minus_one;
  root_below = lit< tt;
  root_of_minus_one = refl;
  other_root = refl;
  no_square = refl;
}
