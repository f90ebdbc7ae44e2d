-- A point is a double where one more than the square of its first coordinate is a square.
use Rattle.std.proofs.Common.{◌≡◌, ℕ, ◌+◌, ◌-◌, ◌*◌, ◌%◌, ◌<◌, ◌⊎◌, inl, inr, refl, sym, ◌∙◌, ap, arith, mod-lt}
use Rattle.std.proofs.Common.{mod-eq_of_lt, mul_comm}
use Rattle.std.proofs.Math.Nat.{zero-mod, mod-mod}
use Rattle.number_facts.proofs.CongruenceLaws.{sums, multiples, products}
use Rattle.number_facts.proofs.Residues.{one_has_root}
use Rattle.number_facts.proofs.Units.{no_root}
use Rattle.edwards.specs.Edwards.{Coordinates, IsOnCurve, cross, inverse, sum}
use Rattle.edwards.specs.Curves.{IsComplete}
use Rattle.edwards.specs.Laws.Completeness.{has_inverses, complete}
use Rattle.edwards.specs.Laws.CurveLaws.{NoCrossIsOne, same_coordinates, above_some, below_some}
use Rattle.edwards.specs.Laws.Quotients.{HasInverses, some_modulus, cancelled, product_some, is_over, less}
use Rattle.edwards.specs.Laws.Quotients.{inverse_times}
use Rattle.edwards.specs.Laws.HalfFacts.{half_first, half_spread, half_on_curve, half_gives_x, half_gives_y}
use Rattle.edwards.specs.Laws.HalfFacts.{halves_apart, sums_apart, ones_apart, other_root}

-- the point is twice a point
abbrev pub IsDouble : ℕ → ℕ → Coordinates → Type 0
IsDouble p d a = (b : Coordinates) × IsOnCurve p d b × (sum p d b b ≡ a)

-- ---- what p does not divide

module _ (p : ℕ) where
  pub some_first : (a b : ℕ) → (a * b % p ≡ 0 → ⊥) → a % p ≡ 0 → ⊥
  some_first a b some z =
      some (multiples p a 0 b (z ∙ sym (zero-mod p)) ∙ ap (λ t. t % p) (none b) ∙ zero-mod p)
    where
      none : (b : ℕ) → 0 * b ≡ 0
      none b = omega arith

  pub some_second : (a b : ℕ) → (a * b % p ≡ 0 → ⊥) → b % p ≡ 0 → ⊥
  some_second a b some = some_first b a (λ z. some (ap (λ t. t % p) (mul_comm a b) ∙ z))

  pub some_alike : (a b : ℕ) → a % p ≡ b % p → (b % p ≡ 0 → ⊥) → a % p ≡ 0 → ⊥
  some_alike a b e some z = some (sym e ∙ z)

-- where u is no zero and c u^2 a square, c is one
pub root_of_quotient : (p : ℕ) (f : HasInverses p) (c u v : ℕ) → (u % p ≡ 0 → ⊥) → c * (u * u) % p ≡ v * v % p
    → (e : ℕ) × (e * e % p ≡ c % p)
root_of_quotient p f c u v some e = (
  v * inverse p u,
  ap (λ t. t % p) (turn v (inverse p u)) ∙ sym (multiples p (c * (u * u)) (v * v) (inverse p u * inverse p u) e)
      ∙ ap (λ t. t % p) (apart c u (inverse p u))
      ∙ multiples p (c * u * inverse p u) c (u * inverse p u) (inverse_times p f c u some) ∙ ap (λ t. t % p)
      (whole c u (inverse p u))
      ∙ inverse_times p f c u some,
)
  where
    turn : (v z : ℕ) → v * z * (v * z) ≡ v * v * (z * z)
    turn v z = omega arith

    apart : (c u z : ℕ) → c * (u * u) * (z * z) ≡ c * u * z * (u * z)
    apart c u z = omega arith

    whole : (c u z : ℕ) → c * (u * z) ≡ c * u * z
    whole c u z = omega arith

module _ (p d : ℕ) (k : IsComplete p d) where
  abbrev i : ℕ
  i = k.root

  abbrev f : HasInverses p
  f = has_inverses p d k

  abbrev all : NoCrossIsOne p d
  all = complete p d k

  pos : 0 < p
  pos = some_modulus p f

  minus : (k.root * k.root + 1) % p ≡ 0 % p
  minus = k.root_of_minus_one ∙ sym (zero-mod p)

  some_half : 0 < k.half
  some_half = positive k.half p k.halves k.big
    where
      positive : (h p : ℕ) → h + h ≡ p - 1 → 4 < p → 0 < h
      positive h p e l = omega arith

  over_two : 2 < p
  over_two = omega (arith, k.big)

  one_some : 1 % p ≡ 0 → ⊥
  one_some z = clash (sym (mod-eq_of_lt f.two) ∙ z)
    where
      clash : ◌≡◌ {A = ℕ} 1 0 → ⊥
      clash h = omega arith

  some_d : d % p ≡ 0 → ⊥
  some_d z =
      one_some (no_root p k.generator (p - 1) k.factors k.generates d k.half k.halves some_half over_two k.no_square 1 0
      (multiples p d 0 (1 * 1) (z ∙ sym (zero-mod p))))

  pub some_i : k.root % p ≡ 0 → ⊥
  some_i z =
      one_some (sym (sums p (k.root * k.root) 0 1 1 (multiples p k.root 0 k.root (z ∙ sym (zero-mod p))
      ∙ ap (λ t. t % p) (none k.root)) refl) ∙ k.root_of_minus_one)
    where
      none : (e : ℕ) → 0 * e ≡ 0
      none e = omega arith

  reduced : (n : ℕ) → n % p % p ≡ n % p
  reduced n = mod-mod n p

  module _ (a : Coordinates) (on : IsOnCurve p d a) (some_x : a.x % p ≡ 0 → ⊥) (some_y : a.y % p ≡ 0 → ⊥) where
    -- the half, from its second coordinate y
    half_from : (e g y : ℕ) → e * e % p ≡ (1 + a.x * a.x) % p → ((a.y + e) % p ≡ 0 → ⊥) → g * (a.y + e) % p ≡ a.y % p
        → (g * (1 + e) % p ≡ 0 → ⊥) → y * y % p ≡ g * (1 + e) % p → IsDouble p d a
    half_from e g y' is_e some_t is_g some_yy is_y' = (b, on_b, same_coordinates (sum p d b b) a same_x same_y)
      where
        y : ℕ
        y = y' % p

        x : ℕ
        x = a.x * g * inverse p y % p

        b : Coordinates
        b = record { x = x; y = y }

        is_y : y * y % p ≡ g * (1 + e) % p
        is_y = products p (y' % p) y' (y' % p) y' (reduced y') (reduced y') ∙ is_y'

        some_y' : y % p ≡ 0 → ⊥
        some_y' = some_first p y y (some_alike p (y * y) (g * (1 + e)) is_y some_yy)

        is_x : x * y % p ≡ a.x * g % p
        is_x = multiples p x (a.x * g * inverse p y) y (reduced (a.x * g * inverse p y))
            ∙ ap (λ t. t % p) (turn (a.x * g) (inverse p y) y) ∙ inverse_times p f (a.x * g) y some_y'
          where
            turn : (c z y : ℕ) → c * z * y ≡ c * y * z
            turn c z y = omega arith

        first : (x * x + g) % p ≡ e * g % p
        first = cancelled p f (x * x + g) (e * g) (y * y) (product_some p f y y some_y' some_y')
            (half_first p x y a.x e g pos is_y is_x is_e)

        spread : (1 + d * a.x * a.x * (g * g)) % p ≡ 2 * g % p
        spread = cancelled p f (1 + d * a.x * a.x * (g * g)) (2 * g) ((a.y + e) * (a.y + e))
            (product_some p f (a.y + e) (a.y + e) some_t some_t)
            (half_spread p (a.y + e) g d a.x a.y e pos is_g refl is_e on.equation)

        on_b : IsOnCurve p d b
        on_b = record {
          x_below = mod-lt (a.x * g * inverse p y) pos;
          y_below = mod-lt y' pos;
          equation = half_on_curve p x y d a.x e g pos first is_y is_x spread;
        }

        same_x : (sum p d b b).x ≡ a.x
        same_x = sym (is_over p f a.x (x * y + y * x) (1 + cross d b b) (above_some p d f all b b on_b on_b) on.x_below
            (half_gives_x p x y d a.x g pos is_x spread))

        same_y : (sum p d b b).y ≡ a.y
        same_y = sym (is_over p f a.y (y * y + x * x) (1 + (p - cross d b b % p)) (below_some p d f all b b on_b on_b)
            on.y_below
            (half_gives_y p (1 + (p - cross d b b % p)) x y d a.x g a.y e pos (less p (cross d b b) pos) is_x spread
            first is_y is_g))

    pub half : (e : ℕ) → e * e % p ≡ (1 + a.x * a.x) % p → IsDouble p d a
    half e is_e = at (one_has_root p k.generator (p - 1) k.factors k.generates d k.half k.halves some_half over_two
        k.no_square
        (g * (1 + e)) (g' * (1 + e')) i some_g some_g' apart)
      where
        e' : ℕ
        e' = k.root * k.root * e

        opposite : (e' + e) % p ≡ 0 % p
        opposite = ap (λ t. t % p) (turn (k.root * k.root) e) ∙ multiples p (k.root * k.root + 1) 0 e minus ∙ ap
            (λ t. t % p) (none e)
          where
            none : (e : ℕ) → 0 * e ≡ 0
            none e = omega arith

            turn : (n e : ℕ) → n * e + e ≡ (n + 1) * e
            turn n e = omega arith

        is_e' : e' * e' % p ≡ (1 + a.x * a.x) % p
        is_e' = other_root p e' e pos opposite ∙ is_e

        some_d_part : d * (a.x * a.x * (a.y * a.y)) % p ≡ 0 → ⊥
        some_d_part = product_some p f d (a.x * a.x * (a.y * a.y)) some_d (product_some p f (a.x * a.x) (a.y * a.y)
            (product_some p f a.x a.x some_x some_x) (product_some p f a.y a.y some_y some_y))

        some_sums : (a.y + e) * (a.y + e') % p ≡ 0 → ⊥
        some_sums = some_alike p ((a.y + e) * (a.y + e')) (d * (a.x * a.x * (a.y * a.y)))
            (sums_apart p d e' e a.x a.y pos opposite is_e on.equation) some_d_part

        some_t : (a.y + e) % p ≡ 0 → ⊥
        some_t = some_first p (a.y + e) (a.y + e') some_sums

        some_t' : (a.y + e') % p ≡ 0 → ⊥
        some_t' = some_second p (a.y + e) (a.y + e') some_sums

        g : ℕ
        g = a.y * inverse p (a.y + e)

        g' : ℕ
        g' = a.y * inverse p (a.y + e')

        over : (t : ℕ) → (t % p ≡ 0 → ⊥) → a.y * inverse p t * t % p ≡ a.y % p
        over t some = ap (λ n. n % p) (turn a.y (inverse p t) t) ∙ inverse_times p f a.y t some
          where
            turn : (c z y : ℕ) → c * z * y ≡ c * y * z
            turn c z y = omega arith

        is_g : g * (a.y + e) % p ≡ a.y % p
        is_g = over (a.y + e) some_t

        is_g' : g' * (a.y + e') % p ≡ a.y % p
        is_g' = over (a.y + e') some_t'

        some_ones : (1 + e) * (1 + e') % p ≡ 0 → ⊥
        some_ones = some_alike p ((1 + e) * (1 + e')) (i * a.x * (i * a.x))
            (ones_apart p e' e a.x i pos opposite is_e minus)
            (product_some p f (i * a.x) (i * a.x) (product_some p f i a.x some_i some_x)
            (product_some p f i a.x some_i some_x))

        some_g : g * (1 + e) % p ≡ 0 → ⊥
        some_g = product_some p f g (1 + e) (some_first p g (a.y + e) (some_alike p (g * (a.y + e)) a.y is_g some_y))
            (some_first p (1 + e) (1 + e') some_ones)

        some_g' : g' * (1 + e') % p ≡ 0 → ⊥
        some_g' = product_some p f g' (1 + e') (some_first p g' (a.y + e') (some_alike p (g' *
            (a.y + e')) a.y is_g' some_y))
            (some_second p (1 + e) (1 + e') some_ones)

        apart : d * (g * (1 + e) * (g' * (1 + e'))) % p ≡ i * i % p
        apart = cancelled p f (d * (g * (1 + e) * (g' * (1 + e')))) (i * i) ((a.y + e) * (a.y + e')) some_sums
            (halves_apart p d g g' e' (a.y + e) (a.y + e') e a.x a.y i pos is_g is_g' refl refl opposite is_e
            on.equation minus)

        at : ((y : ℕ) × (y * y % p ≡ g * (1 + e) % p)) ⊎ ((y : ℕ) × (y * y % p ≡ g' * (1 + e') % p)) → IsDouble p d a
        at (inl s) = half_from e g s.0 is_e some_t is_g some_g s.1
        at (inr s) = half_from e' g' s.0 is_e' some_t' is_g' some_g' s.1
