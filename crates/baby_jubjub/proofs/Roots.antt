-- First coordinates over a second one: their square is (1 - y^2) / (168700 - 168696 y^2), and their sign tells them
-- apart.
use Rattle.std.proofs.Common.{◌≡◌, ℕ, ◌+◌, ◌-◌, ◌*◌, ◌%◌, ◌<◌, ◌⊎◌, inl, inr, ⊎_elim, refl, sym, ◌∙◌, ap}
use Rattle.std.proofs.Common.{arith, mod-lt, lit<, mul_comm}
use Rattle.std.proofs.Math.Nat.{zero-mod, mul-mod_left}
use Rattle.std.proofs.lemmas.Nat.{mul-mod_second}
use Rattle.std.proofs.lemmas.Bool.{cases_eq}
use Rattle.number_facts.proofs.CongruenceLaws.{sums, multiples, products}
use Rattle.edwards.specs.Laws.Quotients.{cancelled, differs, product_some}
use Rattle.baby_jubjub.specs.BabyJubjub.{p, IsOnBabyJubjub}
use Rattle.baby_jubjub.proofs.Carried.{inverses}
use Rattle.baby_jubjub.proofs.Reduced.{low}
use Rattle.baby_jubjub.proofs.Scaling.{cancelled_sum}

module _ (m a d : ℕ) (pos : 0 < m) (x y : ℕ) where
  -- a - d y^2
  abbrev den : ℕ
  den = a + (m - d * (y * y) % m)

  -- 1 - y^2
  abbrev num : ℕ
  num = 1 + (m - y * y % m)

  abbrev both : ℕ
  both = d * (y * y) * (x * x) + y * y

  left_is : (den * (x * x) + both) % m ≡ (a * x * x + y * y) % m
  left_is =
      ap (λ n. n % m) (first den (d * (y * y)) (x * x) (y * y))
      ∙ sums m ((den + d * (y * y)) * (x * x)) (a * (x * x)) (y * y) (y * y)
      (multiples m (den + d * (y * y)) a (x * x) (differs m a (d * (y * y)) pos)) refl
      ∙ ap (λ n. n % m) (last a x (y * y))
    where
      first : (v w q s : ℕ) → v * q + (w * q + s) ≡ (v + w) * q + s
      first v w q s = omega arith

      last : (a x s : ℕ) → a * (x * x) + s ≡ a * x * x + s
      last a x s = omega arith

  right_is : (num + both) % m ≡ (1 + d * x * x * y * y) % m
  right_is =
      ap (λ n. n % m) (first num (d * (y * y) * (x * x)) (y * y))
      ∙ sums m (num + y * y) 1 (d * (y * y) * (x * x)) (d * x * x * y * y) (differs m 1 (y * y) pos)
      (ap (λ n. n % m) (turn d x y))
    where
      first : (u w s : ℕ) → u + (w + s) ≡ u + s + w
      first u w s = omega arith

      turn : (d x y : ℕ) → d * (y * y) * (x * x) ≡ d * x * x * y * y
      turn d x y = omega arith

  -- the equation, with the square of x apart
  ratio_of : (a * x * x + y * y) % m ≡ (1 + d * x * x * y * y) % m → den * (x * x) % m ≡ num % m
  ratio_of on = cancelled_sum m (den * (x * x)) num both pos (left_is ∙ on ∙ sym right_is)

  of_ratio : den * (x * x) % m ≡ num % m → (a * x * x + y * y) % m ≡ (1 + d * x * x * y * y) % m
  of_ratio e = sym left_is ∙ sums m (den * (x * x)) num both both e refl ∙ right_is

some_p : 0 < p
some_p = lit< tt

-- 168700 - 168696 y^2, and 1 - y^2
abbrev pub denominator : ℕ → ℕ
denominator y = 168700 + (p - 168696 * (y * y) % p)

abbrev pub numerator : ℕ → ℕ
numerator y = 1 + (p - y * y % p)

module _ (x y : ℕ) (on : IsOnBabyJubjub (record { x = x; y = y })) where
  pub ratio : denominator y * (x * x) % p ≡ numerator y % p
  ratio = ratio_of p 168700 168696 some_p x y on.equation

  -- the denominator is not 0: else the numerator were, so y^2 were 1, and 168700 were 168696
  pub denominator_some : denominator y % p ≡ 0 → ⊥
  denominator_some none =
      let no_numerator : numerator y % p ≡ 0 =
      sym ratio ∙ multiples p (denominator y) 0 (x * x) (none ∙ sym (zero-mod p))
      ∙ ap (λ n. n % p) (nothing (x * x)) ∙ zero-mod p in
      let square : y * y % p ≡ 1 = one (y * y % p) (mod-lt (y * y) some_p) no_numerator in
      let product : 168696 * (y * y) % p ≡ 168696 % p =
      sym (mul-mod_second 168696 (y * y) p) ∙ ap (λ n. 168696 * n % p) square in
      four (168696 * (y * y) % p) product none
    where
      nothing : (n : ℕ) → 0 * n ≡ 0
      nothing n = omega arith

      one : (n : ℕ) → n < p → (1 + (p - n)) % p ≡ 0 → n ≡ 1
      one n l e = omega (arith, l, e)

      four : (n : ℕ) → n ≡ 168696 % p → (168700 + (p - n)) % p ≡ 0 → ⊥
      four n e h = omega (arith, e, h)

-- two first coordinates over y have one square
pub one_square : (x z y : ℕ) → IsOnBabyJubjub (record { x = x; y = y }) → IsOnBabyJubjub (record { x = z; y = y })
    → x * x % p ≡ z * z % p
one_square x z y on_x on_z =
    cancelled p inverses (x * x) (z * z) (denominator y) (denominator_some x y on_x)
    (ap (λ n. n % p) (mul_comm (x * x) (denominator y)) ∙ ratio x y on_x ∙ sym (ratio z y on_z)
    ∙ ap (λ n. n % p) (mul_comm (denominator y) (z * z)))

-- where one square is that of a first coordinate over y, so is the other
pub over_alike : (x z y : ℕ) → IsOnBabyJubjub (record { x = x; y = y }) → z < p → x * x % p ≡ z * z % p
    → IsOnBabyJubjub (record { x = z; y = y })
over_alike x z y on below same = record {
  x_below = below;
  y_below = on.y_below;
  equation = of_ratio p 168700 168696 some_p z y
      (products p (denominator y) (denominator y) (z * z) (x * x) refl (sym same) ∙ ratio x y on);
}

-- the square of a first coordinate is the numerator times an inverse of the denominator
pub square_is : (x y yy k u v i r : ℕ) → IsOnBabyJubjub (record { x = x; y = y }) → yy ≡ y * y % p
    → u ≡ (1 + (p - yy)) % p → k ≡ 168696 * yy % p → v ≡ (168700 + (p - k)) % p
    → ((v ≡ 0 → ⊥) → v * i % p ≡ 1) → r ≡ u * i % p → x * x % p ≡ r
square_is x y yy k u v i r on is_yy is_u is_k is_v inverts is_r =
    let v_is : v % p ≡ denominator y % p = low p v (168700 + (p - k)) is_v
    ∙ ap (λ n. (168700 + (p - n)) % p) (is_k ∙ ap (λ n. 168696 * n % p) is_yy ∙ mul-mod_second 168696 (y * y) p) in
    let u_is : u % p ≡ numerator y % p = low p u (1 + (p - yy)) is_u ∙ ap (λ n. (1 + (p - n)) % p) is_yy in
    let one : v * i % p ≡ 1 % p = inverts (λ none. denominator_some x y on (sym v_is ∙ ap (λ n. n % p) none
    ∙ zero-mod p)) in
    let r_times : r * denominator y % p ≡ numerator y % p =
    products p r (u * i) (denominator y) v (low p r (u * i) is_r) (sym v_is) ∙ ap (λ n. n % p) (turn u i v)
    ∙ products p u u (v * i) 1 refl one ∙ ap (λ n. n % p) (alone u) ∙ u_is in
    cancelled p inverses (x * x) r (denominator y) (denominator_some x y on)
    (ap (λ n. n % p) (mul_comm (x * x) (denominator y)) ∙ ratio x y on ∙ sym r_times)
    ∙ low p r (u * i) is_r ∙ sym is_r
  where
    turn : (u i v : ℕ) → u * i * v ≡ u * (v * i)
    turn u i v = omega arith

    alone : (u : ℕ) → u * 1 ≡ u
    alone u = omega arith

-- numbers with one square are the same, or each the other's negative
pub same_or_opposite : (x r : ℕ) → x < p → r < p → x * x % p ≡ r * r % p → (x ≡ r) ⊎ (x ≡ (p - r) % p)
same_or_opposite x r x_below r_below square =
    ⊎_elim {C = (x ≡ r) ⊎ (x ≡ (p - r) % p)} (λ none. inl (first none)) (λ some. inr (second (both some)))
    (cases_eq ((x + (p - r)) % p) 0)
  where
    first : (x + (p - r)) % p ≡ 0 → x ≡ r
    first none = omega (arith, none, x_below, r_below)

    second : (x + r) % p ≡ 0 → x ≡ (p - r) % p
    second none = omega (arith, none, x_below, r_below)

    spread : (x r k m : ℕ) → k + r ≡ m → (x + k) * (x + r) + r * r ≡ x * x + (x + r) * m
    spread x r k m e = step x r k ∙ ap (λ t. x * x + (x + r) * t) e
      where
        step : (x r k : ℕ) → (x + k) * (x + r) + r * r ≡ x * x + (x + r) * (k + r)
        step x r k = omega arith

    whole : (r m : ℕ) → r < m → m - r + r ≡ m
    whole r m l = omega (arith, l)

    product : (x + (p - r)) * (x + r) % p ≡ 0
    product =
        cancelled_sum p ((x + (p - r)) * (x + r)) 0 (r * r) some_p (ap (λ t. t % p) (spread x r (p - r) p
        (whole r p r_below)) ∙ sums p (x * x) (r * r) ((x + r) * p) 0 square (mul-mod_left (x + r) p ∙ sym (zero-mod p))
        ∙ ap (λ t. t % p) (turn (r * r))) ∙ zero-mod p
      where
        turn : (a : ℕ) → a + 0 ≡ 0 + a
        turn a = omega arith

    both : ((x + (p - r)) % p ≡ 0 → ⊥) → (x + r) % p ≡ 0
    both some =
        ⊎_elim {C = (x + r) % p ≡ 0} (λ none. none)
        (λ other. absurd (product_some p inverses (x + (p - r)) (x + r) some other product))
        (cases_eq ((x + r) % p) 0)
