-- A point is its coordinates.
use Rattle.std.proofs.Common.{◌≡◌, ap}
use mathlib.Core.HLevel.{is_prop→PathP}
use Rattle.ark_wide_fields.specs.Laws.Fp256.{wide_same}
use Rattle.edwards.specs.Edwards.{Coordinates}
use Rattle.baby_jubjub.specs.declared.point.Point.{Point}
use Rattle.baby_jubjub.specs.BabyJubjub.{IsOnBabyJubjub}
use Rattle.baby_jubjub.specs.Points.{coordinates_at, coordinates}
use Rattle.baby_jubjub.specs.Laws.Points.{on_curve_alike}

pub same_point : (q r : Point) → coordinates q ≡ coordinates r → q ≡ r
same_point q r same =
    let first : q.x ≡ r.x = wide_same q.x r.x (ap (λ (a : Coordinates). a.x) same) in
    let second : q.y ≡ r.y = wide_same q.y r.y (ap (λ (a : Coordinates). a.y) same) in
    λ i. record {
      x = first i;
      y = second i;
      on_curve = is_prop→PathP (λ j. IsOnBabyJubjub (coordinates_at (first j) (second j)))
          (λ j. on_curve_alike (coordinates_at (first j) (second j))) q.on_curve r.on_curve i;
    }
