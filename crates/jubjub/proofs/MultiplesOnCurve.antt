-- Multiples of points of the curve.
use Rattle.std.proofs.Common.{ℕ}
use Rattle.ark_groups.specs.Group.{times}
use Rattle.jubjub.specs.Edwards.{Coordinates}
use Rattle.jubjub.specs.Jubjub.{p, d, curve, IsOnJubjub}
use Rattle.jubjub.specs.Laws.Completeness.{jubjub_is_complete}
use Rattle.edwards.proofs.Sums as sums

pub multiple_on_curve : (n : ℕ) (a : Coordinates) → IsOnJubjub a → IsOnJubjub (times curve n a)
multiple_on_curve = sums.multiple_on_curve p d jubjub_is_complete
