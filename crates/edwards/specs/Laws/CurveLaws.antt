-- The group laws of a twisted Edwards curve whose sums have no denominator that is 0.
use Rattle.std.proofs.Common.{◌≡◌, ℕ, ◌+◌, ◌-◌, ◌*◌, ◌%◌, ◌<◌, refl, sym, ◌∙◌, ap, ap₂, arith, mul_comm}
use Rattle.std.proofs.Common.{mod-lt}
use Rattle.std.proofs.Math.Nat.{zero-mod, mod-add-mod, mod_self}
use Rattle.number_facts.proofs.CongruenceLaws.{multiples}
use Rattle.edwards.specs.Edwards.{Coordinates, IsOnCurve, cross, sum, over, neutral, negative}
use Rattle.edwards.specs.Laws.Quotients.{HasInverses, some_modulus, cancelled, product_some, over_times}
use Rattle.edwards.specs.Laws.Quotients.{over_below, is_over, same_ratio, less, differs}
use Rattle.edwards.specs.Laws.RootFacts.{minus_one, plus_one}
use Rattle.edwards.specs.Laws.ClosureFacts.{sum_on_curve, negative_on_curve, negative_adds_to_zero}
use Rattle.edwards.specs.Laws.ClearedFacts.{x_cleared, y_cleared, x_denominator, y_denominator}
use Rattle.edwards.specs.Laws.CrossedX.{crossed_x}
use Rattle.edwards.specs.Laws.CrossedY.{crossed_y}

-- the square of d x1 x2 y1 y2 is never 1
abbrev pub NoCrossIsOne : ℕ → ℕ → Type 0
NoCrossIsOne p d = (a b : Coordinates) → IsOnCurve p d a → IsOnCurve p d b
    → cross d a b * cross d a b % p ≡ 1 % p → ⊥

pub same_coordinates : (a b : Coordinates) → a.x ≡ b.x → a.y ≡ b.y → a ≡ b
same_coordinates a b e h = λ i. record { x = e i; y = h i }

module _ (p d : ℕ) (f : HasInverses p) (complete : NoCrossIsOne p d) where
  pos : 0 < p
  pos = some_modulus p f

  -- ---- denominators

  abbrev above : Coordinates → Coordinates → ℕ
  above a b = 1 + cross d a b

  abbrev below : Coordinates → Coordinates → ℕ
  below a b = 1 + (p - cross d a b % p)

  pub above_some : (a b : Coordinates) → IsOnCurve p d a → IsOnCurve p d b → above a b % p ≡ 0 → ⊥
  above_some a b on_a on_b e = complete a b on_a on_b (minus_one p (cross d a b) pos (e ∙ sym (zero-mod p)))

  pub below_some : (a b : Coordinates) → IsOnCurve p d a → IsOnCurve p d b → below a b % p ≡ 0 → ⊥
  below_some a b on_a on_b e =
      complete a b on_a on_b
      (plus_one p (below a b) (cross d a b) pos (e ∙ sym (zero-mod p)) (less p (cross d a b) pos))

  -- ---- the sum's coordinates times their denominators

  pub x_of : (a b : Coordinates) → IsOnCurve p d a → IsOnCurve p d b
      → (sum p d a b).x * above a b % p ≡ (a.x * b.y + a.y * b.x) % p
  x_of a b on_a on_b = over_times p f (a.x * b.y + a.y * b.x) (above a b) (above_some a b on_a on_b)

  pub y_of : (a b : Coordinates) → IsOnCurve p d a → IsOnCurve p d b
      → (sum p d a b).y * below a b % p ≡ (a.y * b.y + a.x * b.x) % p
  y_of a b on_a on_b = over_times p f (a.y * b.y + a.x * b.x) (below a b) (below_some a b on_a on_b)

  -- ---- closure

  pub sum_closed : (a b : Coordinates) → IsOnCurve p d a → IsOnCurve p d b → IsOnCurve p d (sum p d a b)
  sum_closed a b on_a on_b =
      let u : ℕ = (sum p d a b).x in
      let v : ℕ = (sum p d a b).y in
      let both : ℕ = above a b * below a b in
      let some = product_some p f (above a b) (below a b) (above_some a b on_a on_b) (below_some a b on_a on_b) in
      record {
        x_below = over_below p f (a.x * b.y + a.y * b.x) (above a b);
        y_below = over_below p f (a.y * b.y + a.x * b.x) (below a b);
        equation =
            cancelled p f (u * u + 1 + d * u * u * v * v) (v * v) (both * both) (product_some p f both both some some)
            (sum_on_curve p u v (above a b) (below a b) a.x a.y b.x b.y d pos (x_of a b on_a on_b) (y_of a b on_a on_b)
            refl (less p (cross d a b) pos) on_a.equation on_b.equation);
      }

  pub neutral_on_curve : IsOnCurve p d neutral
  neutral_on_curve = record { x_below = pos; y_below = f.two; equation = ap (λ t. t % p) (equation d) }
    where
      equation : (d : ℕ) → 0 * 0 + 1 + d * 0 * 0 * 1 * 1 ≡ 1 * 1
      equation d = omega arith

  -- the first coordinate of the negative, and of the point, make 0
  opposite : (a : Coordinates) → IsOnCurve p d a → ((negative p a).x + a.x) % p ≡ 0 % p
  opposite a on =
      mod-add-mod (p - a.x) p a.x ∙ ap (λ t. t % p) (whole p a.x on.x_below) ∙ mod_self p ∙ sym (zero-mod p)
    where
      whole : (p x : ℕ) → x < p → p - x + x ≡ p
      whole p x l = omega arith

  pub negative_closed : (a : Coordinates) → IsOnCurve p d a → IsOnCurve p d (negative p a)
  negative_closed a on = record {
    x_below = mod-lt (p - a.x) pos;
    y_below = on.y_below;
    equation = negative_on_curve p (negative p a).x a.x a.y d pos (opposite a on) on.equation;
  }

  -- ---- the laws

  pub sum_comm : (a b : Coordinates) → sum p d a b ≡ sum p d b a
  sum_comm a b = same_coordinates (sum p d a b) (sum p d b a)
      (ap₂ (λ n t. over p n (1 + t)) (first a.x a.y b.x b.y) (turn d a.x a.y b.x b.y))
      (ap₂ (λ n t. over p n (1 + (p - t % p))) (second a.x a.y b.x b.y) (turn d a.x a.y b.x b.y))
    where
      first : (x1 y1 x2 y2 : ℕ) → x1 * y2 + y1 * x2 ≡ x2 * y1 + y2 * x1
      first x1 y1 x2 y2 = omega arith

      second : (x1 y1 x2 y2 : ℕ) → y1 * y2 + x1 * x2 ≡ y2 * y1 + x2 * x1
      second x1 y1 x2 y2 = omega arith

      turn : (d x1 y1 x2 y2 : ℕ) → d * x1 * x2 * y1 * y2 ≡ d * x2 * x1 * y2 * y1
      turn d x1 y1 x2 y2 = omega arith

  pub sum_neutral : (a : Coordinates) → IsOnCurve p d a → sum p d neutral a ≡ a
  sum_neutral a on = same_coordinates (sum p d neutral a) a
      (sym (is_over p f a.x (0 * a.y + 1 * a.x) (above neutral a) (above_some neutral a neutral_on_curve on) on.x_below
      (ap (λ t. t % p) (first d a.x a.y))))
      (sym (is_over p f a.y (1 * a.y + 0 * a.x) (below neutral a) (below_some neutral a neutral_on_curve on) on.y_below
      (sym (ap (λ t. t % p) (keeps a.y (below neutral a) (cross d neutral a) (none d a.x a.y)))
      ∙ ap (λ t. t % p) (mul_comm a.y (below neutral a + cross d neutral a))
      ∙ multiples p (below neutral a + cross d neutral a) 1 a.y (less p (cross d neutral a) pos)
      ∙ ap (λ t. t % p) (second a.x a.y))))
    where
      first : (d x y : ℕ) → x * (1 + d * 0 * x * 1 * y) ≡ 0 * y + 1 * x
      first d x y = omega arith

      none : (d x y : ℕ) → d * 0 * x * 1 * y ≡ 0
      none d x y = omega arith

      keeps : (y k t : ℕ) → t ≡ 0 → y * (k + t) ≡ y * k
      keeps y k t e = ap (λ n. y * (k + n)) e ∙ ap (λ n. y * n) (with_none k)
        where
          with_none : (k : ℕ) → k + 0 ≡ k
          with_none k = omega arith

      second : (x y : ℕ) → 1 * y ≡ 1 * y + 0 * x
      second x y = omega arith

  pub sum_negative : (a : Coordinates) → IsOnCurve p d a → sum p d (negative p a) a ≡ neutral
  sum_negative a on =
      let n : Coordinates = negative p a in
      let on_n : IsOnCurve p d n = negative_closed a on in
      same_coordinates (sum p d n a) neutral
      (sym (is_over p f 0 (n.x * a.y + a.y * a.x) (above n a) (above_some n a on_n on) pos
      (ap (λ t. t % p) (none (above n a) a.y) ∙ sym (multiples p (n.x + a.x) 0 a.y (opposite a on))
      ∙ ap (λ t. t % p) (parts n.x a.x a.y))))
      (sym (is_over p f 1 (a.y * a.y + n.x * a.x) (below n a) (below_some n a on_n on) f.two
      (negative_adds_to_zero p (below n a) n.x a.x a.y d pos (opposite a on) (less p (cross d n a) pos) on.equation)))
    where
      none : (k y : ℕ) → 0 * k ≡ 0 * y
      none k y = omega arith

      parts : (n x y : ℕ) → (n + x) * y ≡ n * y + y * x
      parts n x y = omega arith

  -- ---- the sum of three, cleared of denominators

  abbrev cross_of : Coordinates → Coordinates → Coordinates → ℕ
  cross_of a b c = d * ((a.x * b.y + a.y * b.x) * (a.y * b.y + a.x * b.x)) * (c.x * c.y)

  abbrev x_num : Coordinates → Coordinates → Coordinates → ℕ
  x_num a b c = (a.x * b.y + a.y * b.x) * below a b * c.y + (a.y * b.y + a.x * b.x) * above a b * c.x

  abbrev x_den : Coordinates → Coordinates → Coordinates → ℕ
  x_den a b c = above a b * below a b + cross_of a b c

  abbrev y_num : Coordinates → Coordinates → Coordinates → ℕ
  y_num a b c = (a.y * b.y + a.x * b.x) * above a b * c.y + (a.x * b.y + a.y * b.x) * below a b * c.x

  abbrev y_den : Coordinates → Coordinates → Coordinates → ℕ
  y_den a b c = above a b * below a b + (p - cross_of a b c % p)

  record Cleared (a b c : Coordinates) : Type 0 where
    x_is : (sum p d (sum p d a b) c).x * x_den a b c % p ≡ x_num a b c % p
    y_is : (sum p d (sum p d a b) c).y * y_den a b c % p ≡ y_num a b c % p
    x_some : x_den a b c % p ≡ 0 → ⊥
    y_some : y_den a b c % p ≡ 0 → ⊥

  cleared : (a b c : Coordinates) → IsOnCurve p d a → IsOnCurve p d b → IsOnCurve p d c → Cleared a b c
  cleared a b c on_a on_b on_c =
      let s : Coordinates = sum p d a b in
      let t : Coordinates = sum p d s c in
      let on_s : IsOnCurve p d s = sum_closed a b on_a on_b in
      let hx = x_of a b on_a on_b in
      let hy = y_of a b on_a on_b in
      let both = product_some p f (above a b) (below a b) (above_some a b on_a on_b) (below_some a b on_a on_b) in
      let rest = differs p (above a b * below a b) (cross_of a b c) pos in
      record {
        x_is = x_cleared p t.x s.x s.y (above a b) (below a b) a.x a.y b.x b.y c.x c.y d pos hx hy (x_of s c on_s on_c);
        y_is = y_cleared p t.y (below s c) (y_den a b c) s.x s.y (above a b)
            (below a b) a.x a.y b.x b.y c.x c.y d pos hx
            hy (less p (cross d s c) pos) rest (y_of s c on_s on_c);
        x_some = λ e. product_some p f (above a b * below a b) (above s c) both (above_some s c on_s on_c)
            (x_denominator p s.x s.y (above a b) (below a b) a.x a.y b.x b.y c.x c.y d pos hx hy ∙ e);
        y_some = λ e. product_some p f (above a b * below a b) (below s c) both (below_some s c on_s on_c)
            (y_denominator p (below s c) (y_den a b c) s.x s.y (above a b)
            (below a b) a.x a.y b.x b.y c.x c.y d pos hx hy
            (less p (cross d s c) pos) rest ∙ e);
      }

  -- the sum of three does not depend on which two are added first
  pub sum_assoc : (a b c : Coordinates) → IsOnCurve p d a → IsOnCurve p d b → IsOnCurve p d c
      → sum p d (sum p d a b) c ≡ sum p d a (sum p d b c)
  sum_assoc a b c on_a on_b on_c =
      let left : Cleared a b c = cleared a b c on_a on_b on_c in
      let right : Cleared b c a = cleared b c a on_b on_c on_a in
      let s : Coordinates = sum p d (sum p d a b) c in
      let t : Coordinates = sum p d (sum p d b c) a in
      let on_s : IsOnCurve p d s = sum_closed (sum p d a b) c (sum_closed a b on_a on_b) on_c in
      let on_t : IsOnCurve p d t = sum_closed (sum p d b c) a (sum_closed b c on_b on_c) on_a in
      same_coordinates s t
      (same_ratio p f s.x t.x (x_num a b c) (x_num b c a) (x_den a b c)
      (x_den b c a) left.x_some right.x_some on_s.x_below
      on_t.x_below left.x_is right.x_is
      (crossed_x p (above a b) (above b c) (below a b) (below b c) a.x a.y b.x b.y c.x c.y d pos refl refl
      (less p (cross d a b) pos) (less p (cross d b c) pos) on_a.equation on_b.equation on_c.equation))
      (same_ratio p f s.y t.y (y_num a b c) (y_num b c a) (y_den a b c)
      (y_den b c a) left.y_some right.y_some on_s.y_below
      on_t.y_below left.y_is right.y_is
      (crossed_y p (y_den a b c) (y_den b c a) (above a b) (above b c) (below a b) (below b c) a.x a.y b.x b.y c.x c.y d
      pos (differs p (above a b * below a b) (cross_of a b c) pos)
      (differs p (above b c * below b c) (cross_of b c a) pos) refl refl
      (less p (cross d a b) pos) (less p (cross d b c) pos) on_a.equation on_b.equation on_c.equation))
      ∙ sum_comm (sum p d b c) a
