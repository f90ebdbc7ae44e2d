-- What the value that tells the multiples of 8 is at a double, and at a double of a double.
use Rattle.std.proofs.Common.{◌≡◌, ℕ, ◌+◌, ◌-◌, ◌*◌, ◌%◌, ◌^◌, ◌<◌, refl, sym, ◌∙◌, ap, ap₂, arith, pow-suc}
use Rattle.std.proofs.Math.Nat.{zero-mod, pow-zero}
use Rattle.number_facts.proofs.CongruenceLaws.{sums, multiples, products}
use Rattle.number_facts.proofs.PowerLaws.{square_power}
use Rattle.edwards.specs.Edwards.{Coordinates, IsOnCurve, cross, sum}
use Rattle.edwards.specs.Curves.{IsComplete}
use Rattle.edwards.specs.Eighths.{HasEighths, tangent, second_factor, first_factor, telling}
use Rattle.edwards.specs.Laws.Completeness.{has_inverses, complete}
use Rattle.edwards.specs.Laws.CurveLaws.{NoCrossIsOne, above_some, below_some, x_of, y_of}
use Rattle.edwards.specs.Laws.Quotients.{HasInverses, some_modulus, cancelled, product_some, less, differs}
use Rattle.edwards.specs.Laws.DoubleFacts.{double_first, double_first_less, double_second, double_rest, double_square}
use Rattle.edwards.specs.Laws.DoubleFacts.{parts}
use Rattle.edwards.specs.Laws.TangentFacts.{tangent_cleared, tangent_of_double}
use Rattle.edwards.specs.Laws.TurnedFacts.{first_denominator, turned_away, turned_cross, turned_product}
use Rattle.edwards.specs.Laws.ClassFacts.{root_of_value, root_of_double, root_of_quadruple}

-- ---- powers as products

pub to_square : (n : ℕ) → n * n ≡ n ^ 2
to_square n = sym (first (n * n)) ∙ square_power n 1 2 refl
  where
    first : (n : ℕ) → n ^ 1 ≡ n
    first n = pow-suc n 0 ∙ ap (λ t. t * n) (pow-zero n) ∙ plain n
      where
        plain : (n : ℕ) → 1 * n ≡ n
        plain n = omega arith

to_fourth_power : (n : ℕ) → n * n * (n * n) ≡ n ^ 4
to_fourth_power n = to_square (n * n) ∙ square_power n 2 4 refl

-- the value, of products alone
abbrev pub multiplied : ℕ → ℕ → ℕ → Coordinates → ℕ
multiplied p i slope a =
    let t = tangent i slope a * second_factor p a * first_factor i a in
    let u = first_factor i a * (1 + a.y) in
    t * t * (t * t) * (u * u) * second_factor p a

pub telling_is : (p i slope : ℕ) (a : Coordinates) → multiplied p i slope a ≡ telling p i slope a
telling_is p i slope a =
    ap₂ (λ t u. t * u * second_factor p a) (to_fourth_power (tangent i slope a * second_factor p a * first_factor i a))
    (to_square (first_factor i a * (1 + a.y)))

module _ (p d : ℕ) (k : IsComplete p d) (h : HasEighths p d k.root) where
  abbrev i : ℕ
  i = k.root

  abbrev f : HasInverses p
  f = has_inverses p d k

  abbrev all : NoCrossIsOne p d
  all = complete p d k

  pos : 0 < p
  pos = some_modulus p f

  pub minus : (k.root * k.root + 1) % p ≡ 0 % p
  minus = k.root_of_minus_one ∙ sym (zero-mod p)

  abbrev pub double : Coordinates → Coordinates
  double a = sum p d a a

  -- the denominators of the double
  abbrev pub above : Coordinates → ℕ
  above a = 1 + cross d a a

  abbrev pub below : Coordinates → ℕ
  below a = 1 + (p - cross d a a % p)

  -- X + Y, 1 - X, Y - X
  abbrev pub both : Coordinates → ℕ
  both a = i * a.x + a.y

  abbrev pub less_first : Coordinates → ℕ
  less_first a = 1 + (p - i * a.x % p)

  abbrev pub apart : Coordinates → ℕ
  apart a = a.y + (p - i * a.x % p)

  -- x^2 + y^2, 1 + x^2
  abbrev pub squares : Coordinates → ℕ
  squares a = a.y * a.y + a.x * a.x

  abbrev pub more : Coordinates → ℕ
  more a = 1 + a.x * a.x

  -- X Y
  abbrev pub product : Coordinates → ℕ
  product a = i * a.x * a.y

  -- (1 + Y) (1 - X)
  abbrev pub sides : Coordinates → ℕ
  sides a = (1 + a.y) * less_first a

  -- the square root of the tangent at the double, but for simple factors
  abbrev pub root : Coordinates → ℕ
  root a = 1 + a.y + i * i * ((1 + h.r) * (i * a.x)) + i * i * (h.r * (1 + h.r) * (i * a.x) * a.y)
      + h.r * (i * a.x) * (i * a.x) + i * i * (h.r * h.r * h.r * (i * a.x) * (i * a.x) * a.y)
      + 2 * h.r * (i * a.x) * (i * a.x) * a.y

  -- the square root of the value at the double
  abbrev pub value_root : Coordinates → ℕ
  value_root a =
      tangent i h.slope (double a) * second_factor p (double a) * first_factor i (double a)
      * (tangent i h.slope (double a) * second_factor p (double a) * first_factor i (double a))
      * (first_factor i (double a) * (1 + (double a).y)) * (2 * (h.spread * product a))

  abbrev pub spread : Coordinates → ℕ
  spread a = above a * below a * (above a * below a)

  abbrev pub fourth : Coordinates → ℕ
  fourth a = 4 * h.spread * (product a * product a) * (both a * both a) * root a

  module _ (a : Coordinates) (on : IsOnCurve p d a) where
    pub parted : (a.x * a.x + above a) % p ≡ a.y * a.y % p
    parted = ap (λ n. n % p) (turn d a.x a.y) ∙ on.equation
      where
        turn : (d x y : ℕ) → x * x + (1 + d * x * x * y * y) ≡ x * x + 1 + d * x * x * y * y
        turn d x y = omega arith

    pub some_above : above a % p ≡ 0 → ⊥
    some_above = above_some p d f all a a on on

    pub some_below : below a % p ≡ 0 → ⊥
    some_below = below_some p d f all a a on on

    pub at_x : (double a).x * above a % p ≡ (a.x * a.y + a.y * a.x) % p
    at_x = x_of p d f all a a on on

    pub at_y : (double a).y * below a % p ≡ squares a % p
    at_y = y_of p d f all a a on on

    two : (above a + below a) % p ≡ 2 % p
    two = ap (λ n. n % p) (turn (cross d a a) (below a)) ∙ sums p (below a + cross d a a) 1 1 1 (less p
        (cross d a a) pos) refl
      where
        turn : (c v : ℕ) → 1 + c + v ≡ v + c + 1
        turn c v = omega arith

    first : (1 + i * (double a).x) * above a % p ≡ both a * both a % p
    first = double_first p i a.x a.y (double a).x (above a) pos parted at_x minus

    less_is_square : less_first (double a) * above a % p ≡ apart a * apart a % p
    less_is_square = double_first_less p i (less_first (double a)) a.x a.y (apart a) (double a).x (above a) pos parted
        at_x minus (less p (i * (double a).x) pos) (differs p a.y (i * a.x) pos)

    second : (1 + (double a).y) * below a % p ≡ 2 * more a % p
    second = double_second p a.x a.y (double a).y (above a) (below a) pos parted at_y two

    rest_is_square : second_factor p (double a) * (below a * below a) % p
        ≡ 2 * (h.spread * product a) * (2 * (h.spread * product a)) % p
    rest_is_square = double_rest p i h.spread (second_factor p (double a)) a.x a.y d (double a).y (above a)
        (below a) pos parted at_y two
        minus h.is_spread refl (less p ((double a).y * (double a).y) pos)

    pub more_is_square : more (double a) * (above a * above a) % p ≡ squares a * squares a % p
    more_is_square = double_square p a.x a.y (double a).x (above a) pos parted at_x

    pub parts_make_square : more a * second_factor p a % p ≡ h.spread * product a * (h.spread * product a) % p
    parts_make_square = parts p i h.spread (second_factor p a) a.x a.y d pos on.equation minus h.is_spread (less p
        (a.y * a.y) pos)

    turned_first : i * (double a).x * above a % p ≡ 2 * (i * a.x * a.y) % p
    turned_first = ap (λ n. n % p) (turn i (double a).x (above a))
        ∙ multiples p ((double a).x * above a) (a.x * a.y + a.y * a.x) i at_x ∙ ap (λ n. n % p) (twice i a.x a.y)
      where
        turn : (i x u : ℕ) → i * x * u ≡ x * u * i
        turn i x u = omega arith

        twice : (i x y : ℕ) → (x * y + y * x) * i ≡ 2 * (i * x * y)
        twice i x y = omega arith

    middle_is : first_factor i (double a) * (above a * above a) % p ≡ 2 * product a * (both a * both a) % p
    middle_is = ap (λ n. n % p) (turn (i * (double a).x) (1 + i * (double a).x) (above a))
        ∙ products p (i * (double a).x * above a) (2 * (i * a.x * a.y)) ((1 + i * (double a).x) * above a)
        (both a * both a) turned_first first
      where
        turn : (x z u : ℕ) → x * z * (u * u) ≡ x * u * (z * u)
        turn x z u = omega arith

    -- the tangent
    pub tangent_is : tangent i h.slope (double a) * (above a * below a) * sides a % p ≡ a.y * both a *
        (root a * root a) % p
    tangent_is = multiples p (tangent i h.slope (double a) * (above a * below a)) _ (sides a)
        (tangent_cleared p h.slope (i * a.x) a.x a.y (i * (double a).x) (double a).y (above a)
        (below a) pos turned_first at_y)
        ∙ tangent_of_double p h.slope (less_first a) (squares a) (above a) (below a) (root a) (i * i) d h.r
        (i * a.x) a.y pos
        minus (first_denominator p i a.x a.y (above a) pos parted minus) two (turned_away p i a.x a.y pos minus)
        (h.is_slope ∙ sym (zero-mod p)) (less p (i * a.x) pos) refl h.of_order_eight
        (turned_cross p i a.x a.y d (above a) pos refl minus)

    pub value_is_square : multiplied p i h.slope (double a) * (below a * below a) % p ≡ value_root a * value_root a % p
    value_is_square = root_of_value p (tangent i h.slope (double a)) (second_factor p (double a)) (first_factor i
        (double a))
        (1 + (double a).y) (2 * (h.spread * product a)) (below a) pos rest_is_square

    pub value_root_is : value_root a * (spread a * spread a * (spread a * spread a)) * (sides a * sides a) % p
        ≡ 2 * h.spread * below a * (fourth a * fourth a * (fourth a * fourth a)) * (a.y * a.y * more a) % p
    value_root_is = root_of_double p (tangent i h.slope (double a)) (second_factor p (double a)) (first_factor i
        (double a))
        (1 + (double a).y) (above a) (below a) (sides a) a.y (both a) (root a) h.spread (product a)
        (more a) pos tangent_is
        rest_is_square middle_is second

    -- where the double is doubled again
    pub next_is : (double a).y * (double a).y * more (double a) * (2 * more a * (2 * more a)) % p
        ≡ sides (double a) * (both a * both a) * (sides (double a) * (both a * both a)) % p
    next_is = cancelled p f ((double a).y * (double a).y * more (double a) * (2 * more a * (2 * more a)))
        (sides (double a) * (both a * both a) * (sides (double a) * (both a * both a)))
        (above a * below a * (above a * below a))
        (product_some p f (above a * below a) (above a * below a) (product_some p f (above a)
        (below a) some_above some_below)
        (product_some p f (above a) (below a) some_above some_below))
        (root_of_quadruple p (double a).y (more (double a)) (1 + (double a).y) (above a) (below a) (less_first
        (double a))
        (squares a) (more a) (apart a) (both a) pos at_y more_is_square second less_is_square
        (turned_product p (apart a) i a.x a.y pos (differs p a.y (i * a.x) pos) minus))
