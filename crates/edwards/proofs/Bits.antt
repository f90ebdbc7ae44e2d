-- Multiples of a point, bit by bit from the lowest.
use Rattle.std.proofs.Common.{◌≡◌, ℕ, ◌+◌, ◌*◌, ◌/◌, ◌%◌, sym, ◌∙◌, ap, subst, arith}
use Rattle.ark_groups.specs.Group.{times}
use Rattle.edwards.specs.declared.extended.Extended.{Extended}
use Rattle.edwards.specs.Edwards.{Coordinates, IsOnCurve, sum, neutral, edwards}
use Rattle.edwards.specs.Extended.{Stands}
use Rattle.edwards.specs.Laws.CurveLaws.{sum_neutral}
use Rattle.edwards.specs.Laws.Completeness.{has_inverses, complete}
use Rattle.edwards.proofs.Sums.{Doubles, multiple_on_curve, more, twice}
use Rattle.ark_groups.specs.Words.{number}
use Rattle.ark_wide_fields.specs.declared.modulus.WideModulus.{Ghosts}
use Rattle.edwards.specs.Curves.{IsComplete}

module _ {M : Type 0} {g : Ghosts M} (d : ℕ) (c : IsComplete (number g.P) d) where
  -- a sum, and a power that is to be added as often as the rest says, make the multiple by n
  pub record AreLeft (e f : Extended M g) (rest n : ℕ) (a : Coordinates) : Type 0 where
    pub count : ℕ
    pub step : ℕ
    pub sum_stands : Stands e (times (edwards (number g.P) d) count a)
    pub power_stands : Stands f (times (edwards (number g.P) d) step a)
    pub whole : count + step * rest ≡ n

  pub all_left : (e f : Extended M g) (n : ℕ) (a : Coordinates) → IsOnCurve (number g.P) d a
      → Stands e neutral → Stands f a → AreLeft e f n n a
  all_left e f n a on of_e of_f =
      record {
        count = 0;
        step = 1;
        sum_stands = of_e;
        power_stands = subst (Stands f) (sym (sum_neutral (number g.P) d (has_inverses (number g.P) d c)
            (complete (number g.P) d c) a on)) of_f;
        whole = whole n;
      }
    where
      whole : (n : ℕ) → 0 + 1 * n ≡ n
      whole n = omega arith

  -- what is left after a bit of 0
  pub even_left : (e f r : Extended M g) (rest n : ℕ) (a : Coordinates) → IsOnCurve (number g.P) d a → Doubles d c f r
      → (rest % 2 ≡ 1 → ⊥) → AreLeft e f rest n a → AreLeft e r (rest / 2) n a
  even_left e f r rest n a on doubles even before =
      record {
        count = before.count;
        step = before.step + before.step;
        sum_stands = before.sum_stands;
        power_stands = twice d c f r before.step a on doubles before.power_stands;
        whole = halves before.count before.step rest (rest / 2) n (half rest even) before.whole;
      }
    where
      half : (rest : ℕ) → (rest % 2 ≡ 1 → ⊥) → rest ≡ rest / 2 + rest / 2
      half rest even = omega arith

      spread : (m k h : ℕ) → m + (k + k) * h ≡ m + k * (h + h)
      spread m k h = omega arith

      halves : (m k rest h n : ℕ) → rest ≡ h + h → m + k * rest ≡ n → m + (k + k) * h ≡ n
      halves m k rest h n is whole = spread m k h ∙ ap (λ r. m + k * r) (sym is) ∙ whole

  -- and after a bit of 1
  pub odd_left : (e f h r : Extended M g) (rest n : ℕ) (a : Coordinates) → IsOnCurve (number g.P) d a
      → ((s t : Coordinates) → IsOnCurve (number g.P) d s → IsOnCurve (number g.P) d t → Stands e s → Stands f t
      → Stands h (sum (number g.P) d s t))
      → Doubles d c f r → rest % 2 ≡ 1 → AreLeft e f rest n a → AreLeft h r (rest / 2) n a
  odd_left e f h r rest n a on adds doubles odd before =
      let m = before.count in
      let k = before.step in
      record {
        count = m + k;
        step = k + k;
        sum_stands = more d c h m k a on (adds (times (edwards (number g.P) d) m a) (times (edwards (number g.P) d) k a)
            (multiple_on_curve (number g.P) d c m a on) (multiple_on_curve (number g.P) d c k a on) before.sum_stands
            before.power_stands);
        power_stands = twice d c f r k a on doubles before.power_stands;
        whole = halves m k rest (rest / 2) n (half rest odd) before.whole;
      }
    where
      half : (rest : ℕ) → rest % 2 ≡ 1 → rest ≡ 1 + (rest / 2 + rest / 2)
      half rest odd = omega arith

      spread : (m k h : ℕ) → m + k + (k + k) * h ≡ m + k * (1 + (h + h))
      spread m k h = omega arith

      halves : (m k rest h n : ℕ) → rest ≡ 1 + (h + h) → m + k * rest ≡ n → m + k + (k + k) * h ≡ n
      halves m k rest h n is whole = spread m k h ∙ ap (λ r. m + k * r) (sym is) ∙ whole

  pub none_left : (e f : Extended M g) (rest n : ℕ) (a : Coordinates) → rest ≡ 0 → AreLeft e f rest n a
      → Stands e (times (edwards (number g.P) d) n a)
  none_left e f rest n a none after =
      subst (λ k. Stands e (times (edwards (number g.P) d) k a)) (all after.count after.step rest n none after.whole)
      after.sum_stands
    where
      nothing : (m k : ℕ) → m ≡ m + k * 0
      nothing m k = omega arith

      all : (m k rest n : ℕ) → rest ≡ 0 → m + k * rest ≡ n → m ≡ n
      all m k rest n none whole = nothing m k ∙ ap (λ r. m + k * r) (sym none) ∙ whole
