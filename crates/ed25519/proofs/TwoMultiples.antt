-- Sums of multiples of two points.
use Rattle.std.proofs.Common.{◌≡◌, ℕ, ap₂, subst}
use Rattle.ark_groups.specs.Group.{Group, times}
use Rattle.edwards.specs.Edwards.{Coordinates, sum}
use Rattle.edwards.specs.Laws.Points.{Point, points, at-times}
use Rattle.ed25519.specs.Edwards25519.{p, d, IsOnEd25519}
use Rattle.ed25519.specs.Laws.Curve.{ed25519_is_complete}
use Rattle.ed25519.specs.Combined.{combined}

abbrev P : Type 0
P = Point p d ed25519_is_complete

abbrev all : Group P
all = points p d ed25519_is_complete

combined_at : (m n : ℕ) (s t : P) → (all.plus (times all m s) (times all n t)).at ≡ combined m n s.at t.at
combined_at m n s t =
    ap₂ (sum p d) (at-times p d ed25519_is_complete m s) (at-times p d ed25519_is_complete n t)

pub combined_on : (m n : ℕ) (s t : Coordinates) → IsOnEd25519 s → IsOnEd25519 t → IsOnEd25519 (combined m n s t)
combined_on m n s t on_s on_t =
    let a : P = record { at = s; on = on_s } in
    let b : P = record { at = t; on = on_t } in
    subst IsOnEd25519 (combined_at m n a b) ((all.plus (times all m a) (times all n b)).on)
