-- Coordinates are on the curve in one way.
use Rattle.std.proofs.Common.{◌≡◌}
use Rattle.std.proofs.Math.Nat.{ℕ_set}
use Rattle.std.specs.Coded.{le_prop}
use Rattle.edwards.specs.Edwards.{Coordinates}
use Rattle.baby_jubjub.specs.BabyJubjub.{IsOnBabyJubjub}

pub on_curve_alike : (q : Coordinates) (u v : IsOnBabyJubjub q) → u ≡ v
on_curve_alike q u v = λ i. record {
  x_below = le_prop u.x_below v.x_below i;
  y_below = le_prop u.y_below v.y_below i;
  equation = ℕ_set _ _ u.equation v.equation i;
}
