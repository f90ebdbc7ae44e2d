-- Which four numbers stand for the neutral point.
use Rattle.std.proofs.Common.{◌≡◌, ℕ, ◌*◌, ◌%◌, ◌<◌, sym, ◌∙◌, ap, arith, mod-eq_of_lt}
use Rattle.edwards.specs.Edwards.{Coordinates, IsOnCurve, neutral}
use Rattle.edwards.specs.Curves.{IsComplete}
use Rattle.edwards.specs.Laws.Completeness.{has_inverses}
use Rattle.edwards.specs.Laws.CurveLaws.{same_coordinates}
use Rattle.edwards.specs.Laws.Quotients.{HasInverses, cancelled, equal, some_modulus}
use Rattle.edwards.proofs.ExtendedLaws.{Four, FourStand}

none : (z : ℕ) → 0 ≡ 0 * z
none z = omega arith

alone : (z : ℕ) → z ≡ 1 * z
alone z = omega arith

pub neutral_from : (p d : ℕ) → IsComplete p d → (e : Four) (s : Coordinates) → IsOnCurve p d s → FourStand p e s
    → e.x ≡ 0 → e.y ≡ e.z → s ≡ neutral
neutral_from p d c e s on of_e x_is y_is =
    let f : HasInverses p = has_inverses p d c in
    same_coordinates s neutral
    (equal p f s.x 0 on.x_below (some_modulus p f)
    (cancelled p f s.x 0 e.z of_e.some (sym of_e.first ∙ ap (λ n. n % p) (x_is ∙ none e.z))))
    (equal p f s.y 1 on.y_below f.two
    (cancelled p f s.y 1 e.z of_e.some (sym of_e.second ∙ ap (λ n. n % p) (y_is ∙ alone e.z))))

module _ (p : ℕ) (e : Four) (s : Coordinates) (of_e : FourStand p e s) where
  pub neutral_first : e.x < p → s ≡ neutral → e.x ≡ 0
  neutral_first x_below is =
      sym (mod-eq_of_lt x_below) ∙ of_e.first ∙ ap (λ (a : Coordinates). a.x * e.z % p) is
      ∙ ap (λ n. n % p) (sym (none e.z)) ∙ mod-eq_of_lt (omega (arith, x_below))

  pub neutral_second : e.y < p → e.z < p → s ≡ neutral → e.y ≡ e.z
  neutral_second y_below z_below is =
      sym (mod-eq_of_lt y_below) ∙ of_e.second ∙ ap (λ (a : Coordinates). a.y * e.z % p) is
      ∙ ap (λ n. n % p) (sym (alone e.z)) ∙ mod-eq_of_lt z_below
