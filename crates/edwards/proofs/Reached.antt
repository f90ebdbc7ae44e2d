-- Points that were reached digit by digit.
use Rattle.std.proofs.Common.{ℕ, List}
use Rattle.ark_groups.specs.Words.{number}
use Rattle.ark_wide_fields.specs.declared.modulus.WideModulus.{Ghosts}
use Rattle.edwards.specs.Curves.{IsComplete}
use Rattle.edwards.specs.Laws.Points.{Point, points, points_laws}
use Rattle.edwards.specs.declared.extended.Extended.{Extended}
use Rattle.edwards.specs.Extended.{StandsApart}
use Rattle.edwards.proofs.Balance.{Reached}

-- three coordinates of a point that the digits from a place on have reached
pub record Reaches {M : Type 0} {g : Ghosts M} (d : ℕ) (k : IsComplete (number g.P) d) (s t : Point (number g.P) d k)
    (m n : List ℕ) (i : ℕ) (e : Extended M g) : Type 0 where
  pub point : Point (number g.P) d k
  pub stands : StandsApart e point.at
  pub reached : Reached (points (number g.P) d k) (points_laws (number g.P) d k) s t m n i point
