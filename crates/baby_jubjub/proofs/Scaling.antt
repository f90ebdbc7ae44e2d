-- Sums on a twisted Edwards curve are those on one whose first coefficient is -1.
use Rattle.std.proofs.Common.{◌≡◌, ℕ, zero, suc, ◌+◌, ◌-◌, ◌*◌, ◌%◌, ◌^◌, ◌<◌, refl, sym, ◌∙◌, ap, subst, arith}
use Rattle.std.proofs.Common.{mod-lt, mod-eq_of_lt}
use Rattle.std.proofs.Math.Nat.{zero-mod, mul-mod_left}
use Rattle.std.proofs.lemmas.Nat.{mul-mod, mul-mod_first, mul-mod_second, pow-mod}
use Rattle.number_facts.proofs.CongruenceLaws.{sums, multiples}
use Rattle.ark_groups.specs.Group.{times}
use Rattle.edwards.specs.Edwards.{Coordinates, IsOnCurve, cross, inverse, over, sum, neutral, negative, edwards}
use Rattle.edwards.specs.Curves.{IsComplete, IsCommutativeGroupOn}
use Rattle.edwards.specs.Laws.Completeness.{has_inverses, complete}
use Rattle.edwards.specs.Laws.CurveLaws.{same_coordinates, sum_closed, neutral_on_curve, negative_closed}
use Rattle.edwards.specs.Laws.CurveLaws.{sum_comm, sum_neutral, sum_negative, sum_assoc}
use Rattle.edwards.specs.Laws.Quotients.{differs}
use Rattle.baby_jubjub.specs.Twisted.{IsOnTwisted, twisted_cross, twisted_sum, twisted}
use Rattle.baby_jubjub.specs.Scaled.{scaled_by, IsFactor}

-- what is added on both sides is left out
pub cancelled_sum : (m a b t : ℕ) → 0 < m → (a + t) % m ≡ (b + t) % m → a % m ≡ b % m
cancelled_sum m a b t pos e =
    sym (differs m a t pos) ∙ ap (λ n. n % m) (turn a (m - t % m) t)
    ∙ sums m (a + t) (b + t) (m - t % m) (m - t % m) e refl
    ∙ ap (λ n. n % m) (sym (turn b (m - t % m) t)) ∙ differs m b t pos
  where
    turn : (a c t : ℕ) → a + c + t ≡ a + t + c
    turn a c t = omega arith

module _ (p a d e s t : ℕ) (k : IsFactor p a d e s t) where
  pos : 0 < p
  pos = omega (arith, k.two)

  -- (s x, y)
  abbrev at : Coordinates → Coordinates
  at = scaled_by p s

  -- ---- quotients

  inverse_same : (b c : ℕ) → b % p ≡ c % p → inverse p b ≡ inverse p c
  unfolding inverse
  inverse_same b c h = sym (pow-mod b (p - 2) p) ∙ ap (λ n. n ^ (p - 2) % p) h ∙ pow-mod c (p - 2) p

  over_same : (m n b c : ℕ) → m % p ≡ n % p → b % p ≡ c % p → over p m b ≡ over p n c
  over_same m n b c g h = multiples p m n (inverse p b) g ∙ ap (λ i. n * i % p) (inverse_same b c h)

  over_scaled : (n b : ℕ) → s * over p n b % p ≡ over p (s * n) b
  over_scaled n b = mul-mod_second s (n * inverse p b) p ∙ ap (λ m. m % p) (turn s n (inverse p b))
    where
      turn : (s n i : ℕ) → s * (n * i) ≡ s * n * i
      turn s n i = omega arith

  -- ---- the sum

  product_is : (x z : ℕ) → s * x % p * (s * z % p) % p ≡ s * s * (x * z) % p
  product_is x z = sym (mul-mod (s * x) (s * z) p) ∙ ap (λ n. n % p) (turn s x z)
    where
      turn : (s x z : ℕ) → s * x * (s * z) ≡ s * s * (x * z)
      turn s x z = omega arith

  -- e x1' x2' w is d x1 x2 w
  pub cross_is : (x z w : ℕ) → e * (s * x % p * (s * z % p)) * w % p ≡ d * (x * z) * w % p
  cross_is x z w =
      ap (λ n. n % p) (first e (s * x % p * (s * z % p)) w)
      ∙ multiples p (s * x % p * (s * z % p)) (s * s * (x * z)) (e * w) (product_is x z)
      ∙ ap (λ n. n % p) (second e (s * s) (x * z) w)
      ∙ multiples p (e * (s * s)) d (x * z * w) k.coefficient ∙ ap (λ n. n % p) (third d (x * z) w)
    where
      first : (e m w : ℕ) → e * m * w ≡ m * (e * w)
      first e m w = omega arith

      second : (e q m w : ℕ) → q * m * (e * w) ≡ e * q * (m * w)
      second e q m w = omega arith

      third : (d m w : ℕ) → d * (m * w) ≡ d * m * w
      third d m w = omega arith

  crosses : (q r : Coordinates) → twisted_cross d q r % p ≡ cross e (at q) (at r) % p
  crosses q r =
      ap (λ n. n % p) (turn d q.x r.x q.y r.y) ∙ sym (cross_is q.x r.x (q.y * r.y))
      ∙ ap (λ n. n % p) (sym (turn e (s * q.x % p) (s * r.x % p) q.y r.y))
    where
      turn : (d x z y w : ℕ) → d * x * z * y * w ≡ d * (x * z) * (y * w)
      turn d x z y w = omega arith

  first_numerator : (x y z w : ℕ) → s * (x * w + y * z) % p ≡ (s * x % p * w + y * (s * z % p)) % p
  first_numerator x y z w =
      ap (λ n. n % p) (turn s x y z w)
      ∙ sym (sums p (s * x % p * w) (s * x * w) (y * (s * z % p)) (y * (s * z)) (mul-mod_first (s * x) w p)
      (mul-mod_second y (s * z) p))
    where
      turn : (s x y z w : ℕ) → s * (x * w + y * z) ≡ s * x * w + y * (s * z)
      turn s x y z w = omega arith

  -- s^2 n is -a n
  minus : (n : ℕ) → (p - a * n % p) % p ≡ s * s * n % p
  minus n =
      cancelled_sum p (p - a * n % p) (s * s * n) (a * n) pos (ap (λ m. m % p) (alone (p - a * n % p) (a * n))
      ∙ differs p 0 (a * n) pos ∙ zero-mod p ∙ sym (zero-mod p) ∙ ap (λ m. m % p) (sym (none n))
      ∙ sym (multiples p (s * s + a) 0 n (k.square ∙ sym (zero-mod p))) ∙ ap (λ m. m % p) (spread (s * s) a n))
    where
      alone : (m n : ℕ) → m + n ≡ 0 + m + n
      alone m n = omega arith

      none : (n : ℕ) → 0 * n ≡ 0
      none n = omega arith

      spread : (q a n : ℕ) → (q + a) * n ≡ q * n + a * n
      spread q a n = omega arith

  second_numerator : (x y z w : ℕ) → (y * w + (p - a * x * z % p)) % p ≡ (y * w + s * x % p * (s * z % p)) % p
  second_numerator x y z w =
      sums p (y * w) (y * w) (p - a * x * z % p) (s * x % p * (s * z % p)) refl
      (ap (λ n. (p - n % p) % p) (turn a x z) ∙ minus (x * z) ∙ sym (product_is x z))
    where
      turn : (a x z : ℕ) → a * x * z ≡ a * (x * z)
      turn a x z = omega arith

  -- the sum of two points is that of the scaled ones
  pub scaled_sum : (q r : Coordinates) → at (twisted_sum p a d q r) ≡ sum p e (at q) (at r)
  scaled_sum q r =
      same_coordinates (at (twisted_sum p a d q r)) (sum p e (at q) (at r))
      (over_scaled (q.x * r.y + q.y * r.x) (1 + twisted_cross d q r)
      ∙ over_same (s * (q.x * r.y + q.y * r.x)) (s * q.x % p * r.y + q.y * (s * r.x % p)) (1 + twisted_cross d q r)
      (1 + cross e (at q) (at r)) (first_numerator q.x q.y r.x r.y)
      (sums p 1 1 (twisted_cross d q r) (cross e (at q) (at r)) refl (crosses q r)))
      (over_same (q.y * r.y + (p - a * q.x * r.x % p)) (q.y * r.y + s * q.x % p * (s * r.x % p))
      (1 + (p - twisted_cross d q r % p)) (1 + (p - cross e (at q) (at r) % p)) (second_numerator q.x q.y r.x r.y)
      (ap (λ n. (1 + (p - n)) % p) (crosses q r)))

  pub scaled_neutral : at neutral ≡ neutral
  scaled_neutral = same_coordinates (at neutral) neutral (ap (λ n. n % p) (none s) ∙ zero-mod p) refl
    where
      none : (s : ℕ) → s * 0 ≡ 0
      none s = omega arith

  pub scaled_times : (n : ℕ) (q : Coordinates) → at (times (twisted p a d) n q) ≡ times (edwards p e) n (at q)
  scaled_times zero q = scaled_neutral
  scaled_times (suc n) q =
      scaled_sum (times (twisted p a d) n q) q ∙ ap (λ r. sum p e r (at q)) (scaled_times n q)

  pub scaled_negative : (q : Coordinates) → q.x < p → at (negative p q) ≡ negative p (at q)
  scaled_negative q below =
      same_coordinates (at (negative p q)) (negative p (at q))
      (mul-mod_second s (p - q.x) p
      ∙ cancelled_sum p (s * (p - q.x)) (p - s * q.x % p) (s * q.x) pos (ap (λ n. n % p)
      (whole s (p - q.x) q.x p (back q.x p below)) ∙ mul-mod_left s p ∙ sym (zero-mod p)
      ∙ sym (differs p 0 (s * q.x) pos) ∙ ap (λ n. n % p) (alone (p - s * q.x % p) (s * q.x)))) refl
    where
      back : (x p : ℕ) → x < p → p - x + x ≡ p
      back x p l = omega (arith, l)

      whole : (s m x p : ℕ) → m + x ≡ p → s * m + s * x ≡ s * p
      whole s m x p h = turn s m x ∙ ap (λ n. s * n) h
        where
          turn : (s m x : ℕ) → s * m + s * x ≡ s * (m + x)
          turn s m x = omega arith

      alone : (m n : ℕ) → 0 + m + n ≡ m + n
      alone m n = omega arith

  -- ---- there and back

  pub back_again : (x : ℕ) → x < p → t * (s * x % p) % p ≡ x
  back_again x below =
      mul-mod_second t (s * x) p ∙ ap (λ n. n % p) (turn s t x)
      ∙ multiples p (s * t) 1 x (k.inverse ∙ sym (mod-eq_of_lt k.two)) ∙ ap (λ n. n % p) (alone x) ∙ mod-eq_of_lt below
    where
      turn : (s t x : ℕ) → t * (s * x) ≡ s * t * x
      turn s t x = omega arith

      alone : (x : ℕ) → 1 * x ≡ x
      alone x = omega arith

  pub same_scaled : (q r : Coordinates) → q.x < p → r.x < p → at q ≡ at r → q ≡ r
  same_scaled q r q_below r_below h =
      same_coordinates q r
      (sym (back_again q.x q_below) ∙ ap (λ (z : Coordinates). t * z.x % p) h ∙ back_again r.x r_below)
      (ap (λ (z : Coordinates). z.y) h)

  -- ---- the curve

  sides : (x y : ℕ) → (s * x % p * (s * x % p) + 1 + e * (s * x % p) * (s * x % p) * y * y + a * x * x) % p
      ≡ (1 + d * x * x * y * y) % p
  sides x y =
      let X : ℕ = s * x % p in
      ap (λ n. n % p) (first e X (a * x * x) y)
      ∙ sums p (X * X + a * x * x) 0 (1 + e * (X * X) * (y * y)) (1 + d * (x * x) * (y * y))
      (sums p (X * X) (s * s * (x * x)) (a * x * x) (a * (x * x)) (product_is x x) (ap (λ n. n % p) (turn a x))
      ∙ ap (λ n. n % p) (spread (s * s) a (x * x)) ∙ multiples p (s * s + a) 0 (x * x) (k.square ∙ sym (zero-mod p))
      ∙ ap (λ n. n % p) (none (x * x)))
      (sums p 1 1 (e * (X * X) * (y * y)) (d * (x * x) * (y * y)) refl (cross_is x x (y * y)))
      ∙ ap (λ n. n % p) (last d x y)
    where
      first : (e X m y : ℕ) → X * X + 1 + e * X * X * y * y + m ≡ X * X + m + (1 + e * (X * X) * (y * y))
      first e X m y = omega arith

      turn : (a x : ℕ) → a * x * x ≡ a * (x * x)
      turn a x = omega arith

      spread : (q a n : ℕ) → q * n + a * n ≡ (q + a) * n
      spread q a n = omega arith

      none : (n : ℕ) → 0 * n ≡ 0
      none n = omega arith

      last : (d x y : ℕ) → 0 + (1 + d * (x * x) * (y * y)) ≡ 1 + d * x * x * y * y
      last d x y = omega arith

  pub scaled_on : (q : Coordinates) → IsOnTwisted p a d q → IsOnCurve p e (at q)
  scaled_on q on =
      let X : ℕ = s * q.x % p in
      record {
        x_below = mod-lt (s * q.x) pos;
        y_below = on.y_below;
        equation = cancelled_sum p (X * X + 1 + e * X * X * q.y * q.y) (q.y * q.y) (a * q.x * q.x) pos
            (sides q.x q.y ∙ sym on.equation ∙ ap (λ n. n % p) (turn (a * q.x * q.x) (q.y * q.y)));
      }
    where
      turn : (m n : ℕ) → m + n ≡ n + m
      turn m n = omega arith

  pub on_of_scaled : (q : Coordinates) → q.x < p → IsOnCurve p e (at q) → IsOnTwisted p a d q
  on_of_scaled q below on =
      let X : ℕ = s * q.x % p in
      record {
        x_below = below;
        y_below = on.y_below;
        equation = ap (λ n. n % p) (turn (a * q.x * q.x) (q.y * q.y))
            ∙ sums p (q.y * q.y) (X * X + 1 + e * X * X * q.y * q.y) (a * q.x * q.x) (a * q.x * q.x) (sym on.equation)
            refl ∙ sides q.x q.y;
      }
    where
      turn : (m n : ℕ) → m + n ≡ n + m
      turn m n = omega arith

  -- ---- the group

  module _ (c : IsComplete p e) where
    pub sum_on : (q r : Coordinates) → IsOnTwisted p a d q → IsOnTwisted p a d r
        → IsOnTwisted p a d (twisted_sum p a d q r)
    sum_on q r on_q on_r =
        on_of_scaled (twisted_sum p a d q r)
        (mod-lt ((q.x * r.y + q.y * r.x) * inverse p (1 + twisted_cross d q r)) pos)
        (subst (IsOnCurve p e) (sym (scaled_sum q r))
        (sum_closed p e (has_inverses p e c) (complete p e c) (at q) (at r) (scaled_on q on_q) (scaled_on r on_r)))

    pub neutral_on : IsOnTwisted p a d neutral
    neutral_on = on_of_scaled neutral pos
        (subst (IsOnCurve p e) (sym scaled_neutral) (neutral_on_curve p e (has_inverses p e c) (complete p e c)))

    pub negative_on : (q : Coordinates) → IsOnTwisted p a d q → IsOnTwisted p a d (negative p q)
    negative_on q on =
        on_of_scaled (negative p q) (mod-lt (p - q.x) pos)
        (subst (IsOnCurve p e) (sym (scaled_negative q on.x_below))
        (negative_closed p e (has_inverses p e c) (complete p e c) (at q) (scaled_on q on)))

    pub times_on : (n : ℕ) (q : Coordinates) → IsOnTwisted p a d q → IsOnTwisted p a d (times (twisted p a d) n q)
    times_on zero q on = neutral_on
    times_on (suc n) q on = sum_on (times (twisted p a d) n q) q (times_on n q on) on

    pub group_laws : IsCommutativeGroupOn (IsOnTwisted p a d) (twisted p a d)
    group_laws =
        let f = has_inverses p e c in
        let all = complete p e c in
        let plus = twisted_sum p a d in
        record {
          identity_in = neutral_on;
          plus_in = sum_on;
          opposite_in = negative_on;
          assoc = λ q r z on_q on_r on_z.
              same_scaled (plus (plus q r) z) (plus q (plus r z))
              (sum_on (plus q r) z (sum_on q r on_q on_r) on_z).x_below
              (sum_on q (plus r z) on_q (sum_on r z on_r on_z)).x_below
              (scaled_sum (plus q r) z ∙ ap (λ n. sum p e n (at z)) (scaled_sum q r)
              ∙ sum_assoc p e f all (at q) (at r) (at z) (scaled_on q on_q) (scaled_on r on_r) (scaled_on z on_z)
              ∙ ap (λ n. sum p e (at q) n) (sym (scaled_sum r z)) ∙ sym (scaled_sum q (plus r z)));
          comm = λ q r on_q on_r.
              same_scaled (plus q r) (plus r q) (sum_on q r on_q on_r).x_below (sum_on r q on_r on_q).x_below
              (scaled_sum q r ∙ sum_comm p e f all (at q) (at r) ∙ sym (scaled_sum r q));
          left_identity = λ q on.
              same_scaled (plus neutral q) q (sum_on neutral q neutral_on on).x_below on.x_below
              (scaled_sum neutral q ∙ ap (λ n. sum p e n (at q)) scaled_neutral
              ∙ sum_neutral p e f all (at q) (scaled_on q on));
          left_opposite = λ q on.
              same_scaled (plus (negative p q) q) neutral (sum_on (negative p q) q (negative_on q on) on).x_below pos
              (scaled_sum (negative p q) q ∙ ap (λ n. sum p e n (at q)) (scaled_negative q on.x_below)
              ∙ sum_negative p e f all (at q) (scaled_on q on) ∙ sym scaled_neutral);
        }
