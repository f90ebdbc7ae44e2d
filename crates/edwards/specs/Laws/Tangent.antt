-- Where the tangent at a point of order 8 is 0, the second coordinate of the double is 0; and what is not 0 at a point.
use Rattle.std.proofs.Common.{◌≡◌, ℕ, ◌+◌, ◌-◌, ◌*◌, ◌%◌, ◌<◌, ◌⊎◌, inl, inr, refl, sym, ◌∙◌, ap, arith, mod-eq_of_lt}
use Rattle.std.proofs.Common.{mul_comm}
use Rattle.std.proofs.Math.Nat.{zero-mod}
use Rattle.std.proofs.lemmas.Bool.{cases_eq}
use Rattle.number_facts.proofs.CongruenceLaws.{sums, multiples}
use Rattle.edwards.specs.Edwards.{Coordinates, IsOnCurve}
use Rattle.edwards.specs.Curves.{IsComplete}
use Rattle.edwards.specs.Eighths.{HasEighths, tangent, second_factor}
use Rattle.edwards.specs.Laws.Completeness.{has_inverses}
use Rattle.edwards.specs.Laws.Halves.{some_first, some_second, some_alike, some_i}
use Rattle.edwards.specs.Laws.Quotients.{HasInverses, some_modulus, cancelled, product_some, less, differs}
use Rattle.edwards.specs.Laws.TangentZeros.{tangent_apart, tangent_on_curve, tangent_roots, tangent_second, left_alone}
use Rattle.edwards.specs.Laws.Telling.{minus, double, above, below, both, less_first, apart, squares, more, product}
use Rattle.edwards.specs.Laws.Telling.{sides}
use Rattle.edwards.specs.Laws.Telling.{at_x, at_y, some_above, some_below, parts_make_square, parted}
use Rattle.edwards.specs.Laws.TurnedFacts.{first_denominator, turned_cross, turned_alike, turned_more, turned_product}
use Rattle.edwards.specs.Laws.TurnedFacts.{rest_parted}

module _ (p d : ℕ) (k : IsComplete p d) (h : HasEighths p d k.root) where
  abbrev i : ℕ
  i = k.root

  abbrev f : HasInverses p
  f = has_inverses p d k

  pos : 0 < p
  pos = some_modulus p f

  small_some : (c : ℕ) → 0 < c → c < p → c % p ≡ 0 → ⊥
  small_some c some below z = clash c (sym (mod-eq_of_lt below) ∙ z) some
    where
      clash : (c : ℕ) → c ≡ 0 → 0 < c → ⊥
      clash c e l = omega (arith, e, l)

  pub one_some : 1 % p ≡ 0 → ⊥
  one_some = small_some 1 (omega arith) (omega (arith, k.big))

  pub two_some : 2 % p ≡ 0 → ⊥
  two_some = small_some 2 (omega arith) (omega (arith, k.big))

  pub four_some : 4 % p ≡ 0 → ⊥
  four_some = small_some 4 (omega arith) k.big

  module _ (a : Coordinates) (on : IsOnCurve p d a) (some_x : a.x % p ≡ 0 → ⊥) (some_y : a.y % p ≡ 0 → ⊥) where
    pub some_turned : i * a.x % p ≡ 0 → ⊥
    some_turned = product_some p f i a.x (some_i p d k) some_x

    pub some_product : product p d k h a % p ≡ 0 → ⊥
    some_product = product_some p f (i * a.x) a.y some_turned some_y

    some_parts : more p d k h a * second_factor p a % p ≡ 0 → ⊥
    some_parts = some_alike p (more p d k h a * second_factor p a) (h.spread * product p d k h a *
        (h.spread * product p d k h a))
        (parts_make_square p d k h a on)
        (product_some p f (h.spread * product p d k h a) (h.spread * product p d k h a)
        (product_some p f h.spread (product p d k h a) h.some_spread some_product)
        (product_some p f h.spread (product p d k h a) h.some_spread some_product))

    pub some_more : more p d k h a % p ≡ 0 → ⊥
    some_more = some_first p (more p d k h a) (second_factor p a) some_parts

    pub some_rest : second_factor p a % p ≡ 0 → ⊥
    some_rest = some_second p (more p d k h a) (second_factor p a) some_parts

    some_turned_sides : (1 + i * a.x) * less_first p d k h a % p ≡ 0 → ⊥
    some_turned_sides = some_alike p ((1 + i * a.x) * less_first p d k h a) (more p d k h a)
        (turned_more p (less_first p d k h a) i a.x pos (less p (i * a.x) pos) (minus p d k h)) some_more

    some_upper : (1 + a.y) * (1 + (p - a.y % p)) % p ≡ 0 → ⊥
    some_upper = some_alike p ((1 + a.y) * (1 + (p - a.y % p))) (second_factor p a)
        (rest_parted p (second_factor p a) (1 + (p - a.y % p)) a.y pos (less p (a.y * a.y) pos)
        (less p a.y pos)) some_rest

    pub some_sides : sides p d k h a % p ≡ 0 → ⊥
    some_sides = product_some p f (1 + a.y) (less_first p d k h a) (some_first p (1 + a.y) (1 +
        (p - a.y % p)) some_upper)
        (some_second p (1 + i * a.x) (less_first p d k h a) some_turned_sides)

    -- ---- where the tangent is 0

    module _ (zero' : tangent i h.slope a % p ≡ 0) where
      abbrev w : ℕ
      w = i * a.x

      abbrev u : ℕ
      u = 1 + h.slope * w

      abbrev v : ℕ
      v = h.r * w + (p - 1 % p)

      none : tangent i h.slope a % p ≡ 0 % p
      none = zero' ∙ sym (zero-mod p)

      turned_curve : (w * w + a.y * a.y + d * (w * w) * (a.y * a.y)) % p ≡ 1 % p
      turned_curve = sums p (w * w + a.y * a.y) (above p d k h a) (d * (w * w) * (a.y * a.y)) (d * w * w * a.y * a.y)
          (sym (first_denominator p i a.x a.y (above p d k h a) pos (parted p d k h a on) (minus p d k h)))
          (ap (λ n. n % p) (turn d w a.y))
          ∙ turned_cross p i a.x a.y d (above p d k h a) pos refl (minus p d k h)
        where
          turn : (d w y : ℕ) → d * (w * w) * (y * y) ≡ d * w * w * y * y
          turn d w y = omega arith

      roots : (1 + w) * (w * (2 * ((1 + h.r) * (1 + h.r)) * (v * v))) % p ≡ 0 % p
      roots = left_alone p ((1 + w) * (w * (2 * ((1 + h.r) * (1 + h.r)) * (v * v)))) (u * u) pos
          (tangent_roots p v u h.slope d w h.r pos (differs p (h.r * w) 1 pos) refl (h.is_slope ∙ sym (zero-mod p))
          h.of_order_eight
          ∙ tangent_on_curve p w a.y u d ((1 + w) * (1 + w)) pos (tangent_apart p h.slope w a.y u pos none refl)
          turned_curve)

      v_is_zero : v % p ≡ 0
      v_is_zero = at (cases_eq (v % p) 0)
        where
          at : (v % p ≡ 0) ⊎ (v % p ≡ 0 → ⊥) → v % p ≡ 0
          at (inl e) = e
          at (inr some) = absurd (product_some p f (1 + w) (w * (2 * ((1 + h.r) * (1 + h.r)) * (v * v)))
              (some_first p (1 + w) (less_first p d k h a) some_turned_sides)
              (product_some p f w (2 * ((1 + h.r) * (1 + h.r)) * (v * v)) some_turned
              (product_some p f (2 * ((1 + h.r) * (1 + h.r))) (v * v)
              (product_some p f 2 ((1 + h.r) * (1 + h.r)) two_some (product_some p f (1 + h.r)
              (1 + h.r) h.some_r h.some_r))
              (product_some p f v v some some))) (roots ∙ zero-mod p))

      at_first : h.r * w % p ≡ 1 % p
      at_first = sym (differs p (h.r * w) 1 pos) ∙ sums p v 0 1 1 (v_is_zero ∙ sym (zero-mod p)) refl

      -- 1 - r y
      abbrev away : ℕ
      away = 1 + (p - h.r * a.y % p)

      away_is : (1 + h.r) * away % p ≡ 0
      away_is = tangent_second p h.slope h.r away w a.y pos at_first (h.is_slope ∙ sym (zero-mod p))
          (less p (h.r * a.y) pos)
          ∙ ap (λ n. n % p) (mul_comm h.r (tangent i h.slope a)) ∙ multiples p (tangent i h.slope a) 0 h.r none
          ∙ ap (λ n. n % p) (nothing h.r) ∙ zero-mod p
        where
          nothing : (r : ℕ) → 0 * r ≡ 0
          nothing r = omega arith

      at_second : h.r * a.y % p ≡ 1 % p
      at_second = ap (λ n. n % p) (plain (h.r * a.y))
          ∙ sums p 0 away (h.r * a.y) (h.r * a.y) (zero-mod p ∙ sym (at (cases_eq (away % p) 0))) refl
          ∙ less p (h.r * a.y) pos
        where
          plain : (n : ℕ) → n ≡ 0 + n
          plain n = omega arith

          at : (away % p ≡ 0) ⊎ (away % p ≡ 0 → ⊥) → away % p ≡ 0
          at (inl e) = e
          at (inr some) = absurd (product_some p f (1 + h.r) away h.some_r some away_is)

      pub squares_are_zero : (a.y * a.y + a.x * a.x) % p ≡ 0
      squares_are_zero = turned_alike p i a.x a.y pos
          (cancelled p f a.y w h.r (some_first p h.r w (some_alike p (h.r * w) 1 at_first one_some))
          (ap (λ n. n % p) (mul_comm a.y h.r) ∙ at_second ∙ sym at_first ∙ ap (λ n. n % p) (mul_comm h.r w)))
          (minus p d k h) ∙ zero-mod p

  -- what a double has no 0 of, its half has no 0 of
  module _ (a : Coordinates) (on : IsOnCurve p d a) (some_x : (double p d k h a).x % p ≡ 0 → ⊥)
      (some_y : (double p d k h a).y % p ≡ 0 → ⊥) where
    some_cross : (a.x * a.y + a.y * a.x) % p ≡ 0 → ⊥
    some_cross = some_alike p (a.x * a.y + a.y * a.x) ((double p d k h a).x * above p d k h a) (sym (at_x p d k h a on))
        (product_some p f (double p d k h a).x (above p d k h a) some_x (some_above p d k h a on))

    pub half_some_x : a.x % p ≡ 0 → ⊥
    half_some_x = some_first p a.x (2 * a.y) (λ z. some_cross (ap (λ n. n % p) (turn a.x a.y) ∙ z))
      where
        turn : (x y : ℕ) → x * y + y * x ≡ x * (2 * y)
        turn x y = omega arith

    pub half_some_y : a.y % p ≡ 0 → ⊥
    half_some_y = some_first p a.y (2 * a.x) (λ z. some_cross (ap (λ n. n % p) (turn a.x a.y) ∙ z))
      where
        turn : (x y : ℕ) → x * y + y * x ≡ y * (2 * x)
        turn x y = omega arith

    pub half_some_squares : squares p d k h a % p ≡ 0 → ⊥
    half_some_squares = some_alike p (squares p d k h a) ((double p d k h a).y * below p d k h a) (sym
        (at_y p d k h a on))
        (product_some p f (double p d k h a).y (below p d k h a) some_y (some_below p d k h a on))

    pub half_some_both : both p d k h a % p ≡ 0 → ⊥
    half_some_both = some_first p (both p d k h a) (apart p d k h a)
        (some_alike p (both p d k h a * apart p d k h a) (squares p d k h a)
        (turned_product p (apart p d k h a) i a.x a.y pos (differs p a.y (i * a.x) pos)
        (minus p d k h)) half_some_squares)
