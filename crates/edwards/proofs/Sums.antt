-- Sums of multiples of a point.
use Rattle.std.proofs.Common.{◌≡◌, ℕ, ◌+◌, sym, ◌∙◌, ap, ap₂, subst}
use Rattle.ark_groups.specs.Group.{times}
use Rattle.ark_groups.proofs.Multiples.{times-add}
use Rattle.edwards.specs.declared.extended.Extended.{Extended}
use Rattle.edwards.specs.Edwards.{Coordinates, IsOnCurve, sum, edwards}
use Rattle.edwards.specs.Extended.{Stands}
use Rattle.edwards.specs.Laws.Points.{Point, points, points_laws, at-times}
use Rattle.ark_groups.specs.Words.{number}
use Rattle.ark_wide_fields.specs.declared.modulus.WideModulus.{Ghosts}
use Rattle.edwards.specs.Curves.{IsComplete}

module _ (p d : ℕ) (c : IsComplete p d) where
  pub multiple_on_curve : (n : ℕ) (a : Coordinates) → IsOnCurve p d a → IsOnCurve p d (times (edwards p d) n a)
  multiple_on_curve n a on =
      let one : Point p d c = record { at = a; on = on } in
      subst (IsOnCurve p d) (at-times p d c n one) ((times (points p d c) n one).on)

  -- the sum of two multiples
  pub multiples_add : (m n : ℕ) (a : Coordinates) → IsOnCurve p d a
      → sum p d (times (edwards p d) m a) (times (edwards p d) n a) ≡ times (edwards p d) (m + n) a
  multiples_add m n a on =
      let one : Point p d c = record { at = a; on = on } in
      ap₂ (sum p d) (sym (at-times p d c m one)) (sym (at-times p d c n one))
      ∙ ap (λ (t : Point p d c). t.at) (sym (times-add (points_laws p d c) m n one)) ∙ at-times p d c (m + n) one

module _ {M : Type 0} {g : Ghosts M} (d : ℕ) (c : IsComplete (number g.P) d) where
  -- four coordinates are doubled
  abbrev pub Doubles : Extended M g → Extended M g → Type 0
  Doubles e r = (t : Coordinates) → IsOnCurve (number g.P) d t → Stands e t → Stands r (sum (number g.P) d t t)

  pub twice : (e r : Extended M g) (m : ℕ) (a : Coordinates) → IsOnCurve (number g.P) d a → Doubles e r
      → Stands e (times (edwards (number g.P) d) m a) → Stands r (times (edwards (number g.P) d) (m + m) a)
  twice e r m a on doubles of_e =
      subst (Stands r) (multiples_add (number g.P) d c m m a on)
      (doubles (times (edwards (number g.P) d) m a) (multiple_on_curve (number g.P) d c m a on) of_e)

  -- four coordinates are doubled twice
  abbrev pub Quadruples : Extended M g → Extended M g → Type 0
  Quadruples e r = (t : Coordinates) → IsOnCurve (number g.P) d t → Stands e t
      → Stands r (sum (number g.P) d (sum (number g.P) d t t) (sum (number g.P) d t t))

  pub four_times : (e r : Extended M g) (m : ℕ) (a : Coordinates) → IsOnCurve (number g.P) d a → Quadruples e r
      → Stands e (times (edwards (number g.P) d) m a) → Stands r (times (edwards (number g.P) d) (m + m + (m + m)) a)
  four_times e r m a on quadruples of_e =
      let twice_is = multiples_add (number g.P) d c m m a on in
      subst (Stands r) (ap (λ t. sum (number g.P) d t t) twice_is ∙ multiples_add (number g.P) d c (m + m) (m + m) a on)
      (quadruples (times (edwards (number g.P) d) m a) (multiple_on_curve (number g.P) d c m a on) of_e)

  -- a multiple is added
  pub more : (r : Extended M g) (m k : ℕ) (a : Coordinates) → IsOnCurve (number g.P) d a
      → Stands r (sum (number g.P) d (times (edwards (number g.P) d) m a) (times (edwards (number g.P) d) k a))
      → Stands r (times (edwards (number g.P) d) (m + k) a)
  more r m k a on of_r = subst (Stands r) (multiples_add (number g.P) d c m k a on) of_r
