-- The curve's equation as a ratio, and roots by their parity.
use Rattle.std.proofs.Common.{◌≡◌, ℕ, ◌+◌, ◌-◌, ◌*◌, ◌%◌, ◌<◌, Bool, true, false, refl, sym, ◌∙◌, ap, subst, arith}
use Rattle.std.proofs.Common.{mul_comm}
use Rattle.std.proofs.Common.{◌⊎◌, inl, inr, ⊎_elim, mod-lt, lit<, true≢false}
use Rattle.std.proofs.Math.Nat.{zero-mod, mod-mod, mul-mod_left, add-mul-mod_self_right}
use Rattle.std.proofs.lemmas.Nat.{mul-mod, mul-mod_second}
use Rattle.std.proofs.lemmas.Bool.{cases_eq}
use mathlib.Core.Bool.{beq}
use Rattle.std.specs.Bool.{Decides}
use Rattle.std.specs.Int.{from_bool}
use Rattle.number_facts.proofs.CongruenceLaws.{sums, multiples}
use Rattle.number_facts.proofs.Units.{no_zero_divisors}
use Rattle.edwards.specs.Edwards.{Coordinates}
use Rattle.ed25519.specs.Edwards25519.{p, d, IsOnEd25519}
use Rattle.edwards.specs.Laws.Quotients.{cancelled}
use Rattle.edwards.specs.Laws.Completeness.{has_inverses}
use Rattle.ed25519.specs.Laws.Curve.{ed25519_is_complete}
use Rattle.ed25519.specs.Laws.ModulusPrime.{factors_p, generates_p}

module _ (m c : ℕ) (pos : 0 < m) (X Y yy product u v : ℕ) (is_yy : yy ≡ Y * Y % m) (is_u : u ≡ (yy + (m - 1)) % m)
    (is_product : product ≡ yy * c % m) (is_v : v ≡ (product + 1) % m) where
  yy_mod : yy % m ≡ Y * Y % m
  yy_mod = ap (λ t. t % m) is_yy ∙ mod-mod (Y * Y) m

  v_mod : v % m ≡ (Y * Y * c + 1) % m
  v_mod =
      ap (λ t. t % m) is_v ∙ mod-mod (product + 1) m ∙ sums m product (Y * Y * c) 1 1
      (ap (λ t. t % m) is_product ∙ mod-mod (yy * c) m ∙ multiples m yy (Y * Y) c yy_mod) refl

  around : (n : ℕ) → (n + 1 + (m - 1)) % m ≡ n % m
  around n = ap (λ t. t % m) (turn n m pos) ∙ add-mul-mod_self_right n 1 m
    where
      turn : (n m : ℕ) → 0 < m → n + 1 + (m - 1) ≡ n + 1 * m
      turn n m l = omega (arith, l)

  left : (Y * Y * c + 1) * (X * X) + 1 ≡ X * X + 1 + c * X * X * Y * Y
  left = ring X Y c
    where
      ring : (X Y c : ℕ) → (Y * Y * c + 1) * (X * X) + 1 ≡ X * X + 1 + c * X * X * Y * Y
      ring X Y c = omega arith

  on_from_ratio : v * (X * X) % m ≡ u → (X * X + 1 + c * X * X * Y * Y) % m ≡ Y * Y % m
  on_from_ratio e =
      ap (λ t. t % m) (sym left)
      ∙ sums m ((Y * Y * c + 1) * (X * X)) (yy + (m - 1)) 1 1
      (sym (multiples m v (Y * Y * c + 1) (X * X) v_mod) ∙ e ∙ is_u) refl
      ∙ ap (λ t. t % m) (swap yy (m - 1)) ∙ around yy ∙ yy_mod
    where
      swap : (a b : ℕ) → a + b + 1 ≡ a + 1 + b
      swap a b = omega arith

  ratio_from_on : (X * X + 1 + c * X * X * Y * Y) % m ≡ Y * Y % m → v * (X * X) % m ≡ u
  ratio_from_on e =
      multiples m v (Y * Y * c + 1) (X * X) v_mod ∙ sym (around ((Y * Y * c + 1) * (X * X)))
      ∙ sums m ((Y * Y * c + 1) * (X * X) + 1) yy (m - 1) (m - 1)
      (ap (λ t. t % m) left ∙ e ∙ sym yy_mod) refl ∙ sym is_u

-- d y^2 + 1 is 0 for no point, since d + 1 is not
denominator_some : (X yy u v product : ℕ) → yy < p → u ≡ (yy + (p - 1)) % p → product ≡ yy * d % p
    → v ≡ (product + 1) % p → v * (X * X) % p ≡ u → v ≡ 0 → ⊥
denominator_some X yy u v product below is_u is_product is_v ratio none =
    let u_none : u ≡ 0 = sym ratio ∙ ap (λ t. t * (X * X) % p) none ∙ ap (λ t. t % p) (zero_times (X * X)) ∙ zero-mod
    p in
    let yy_one : yy ≡ 1 = omega (arith, below, is_u, u_none) in
    let product_is : product ≡ d = is_product ∙ ap (λ t. t * d % p) yy_one in
    omega (arith, is_v, product_is, none)
  where
    zero_times : (a : ℕ) → 0 * a ≡ 0
    zero_times a = omega arith

-- numbers with one square are the same, or each the other's negative
pub same_or_opposite : (x r : ℕ) → x < p → r < p → x * x % p ≡ r * r % p → (x ≡ r) ⊎ (x ≡ (p - r) % p)
same_or_opposite x r x_below r_below square =
    ⊎_elim {C = (x ≡ r) ⊎ (x ≡ (p - r) % p)} (λ none. inl (first none)) (λ some. inr (second
    (no_zero_divisors p 2 (p - 1) factors_p generates_p (x + (p - r)) (x + r) some product)))
    (cases_eq ((x + (p - r)) % p) 0)
  where
    first : (x + (p - r)) % p ≡ 0 → x ≡ r
    first none = omega (arith, none, x_below, r_below)

    second : (x + r) % p ≡ 0 → x ≡ (p - r) % p
    second none = omega (arith, none, x_below, r_below)

    spread : (x r k m : ℕ) → k + r ≡ m → (x + k) * (x + r) ≡ x * x + (m * x + k * r)
    spread x r k m e = step x r k ∙ ap (λ t. x * x + (t * x + k * r)) e
      where
        step : (x r k : ℕ) → (x + k) * (x + r) ≡ x * x + ((k + r) * x + k * r)
        step x r k = omega arith

    gather : (x r k m : ℕ) → k + r ≡ m → r * r + (m * x + k * r) ≡ (x + r) * m
    gather x r k m e = ap (λ t. r * r + (t * x + k * r)) (sym e) ∙ step x r k ∙ ap (λ t. (x + r) * t) e
      where
        step : (x r k : ℕ) → r * r + ((k + r) * x + k * r) ≡ (x + r) * (k + r)
        step x r k = omega arith

    back : (r m : ℕ) → r < m → m - r + r ≡ m
    back r m l = omega (arith, l)

    product : (x + (p - r)) * (x + r) % p ≡ 0
    product =
        ap (λ t. t % p) (spread x r (p - r) p (back r p r_below))
        ∙ sums p (x * x) (r * r) (p * x + (p - r) * r) (p * x + (p - r) * r) square refl
        ∙ ap (λ t. t % p) (gather x r (p - r) p (back r p r_below)) ∙ mul-mod_left (x + r) p

odd_is : (b : Bool) (r : ℕ) → Decides b (r % 2 ≡ 1) → r % 2 ≡ from_bool b
odd_is true r k = k.0 refl
odd_is false r k = even r (λ odd. clash (k.1 odd))
  where
    even : (r : ℕ) → (r % 2 ≡ 1 → ⊥) → r % 2 ≡ 0
    even r none = omega (arith, none)

    clash : false ≡ true → ⊥
    clash e = absurd cc

-- the root of the parity that is asked for
pub right_root : (b odd : Bool) (x r : ℕ) → x < p → r < p → Decides b (r % 2 ≡ 1) → x % 2 ≡ from_bool odd
    → x * x % p ≡ r * r % p → b ≡ odd → r ≡ x
right_root b odd x r x_below r_below test parity square same =
    let r_odd : r % 2 ≡ from_bool odd = odd_is b r test ∙ ap from_bool same in
    ⊎_elim {C = r ≡ x} (λ e. sym e) (λ e. omega (arith, e, r_odd, parity, x_below, r_below))
    (same_or_opposite x r x_below r_below square)

pub other_root : (b odd : Bool) (x r : ℕ) → x < p → r < p → Decides b (r % 2 ≡ 1) → x % 2 ≡ from_bool odd
    → x * x % p ≡ r * r % p → (b ≡ odd → ⊥) → (p - r) % p ≡ x
other_root b odd x r x_below r_below test parity square differ =
    ⊎_elim {C = (p - r) % p ≡ x} (λ e. absurd (differ (same b odd (sym (odd_is b r test) ∙ ap (λ t. t % 2) (sym e)
    ∙ parity)))) (λ e. sym e) (same_or_opposite x r x_below r_below square)
  where
    same : (b c : Bool) → from_bool b ≡ from_bool c → b ≡ c
    same true true e = refl
    same true false e = absurd (omega (arith, e))
    same false true e = absurd (omega (arith, e))
    same false false e = refl

-- truth values that are compared
pub beq_same : (b c : Bool) → beq b c ≡ true → b ≡ c
beq_same true true e = refl
beq_same true false e = absurd (true≢false (sym e))
beq_same false true e = absurd (true≢false (sym e))
beq_same false false e = refl

pub beq_differ : (b c : Bool) → beq b c ≡ false → b ≡ c → ⊥
beq_differ true true e h = true≢false e
beq_differ true false e h = true≢false h
beq_differ false true e h = true≢false (sym h)
beq_differ false false e h = true≢false e

-- the square of the negative
pub opposite_square : (m r : ℕ) → r < m → (m - r) % m * ((m - r) % m) % m ≡ r * r % m
opposite_square m r below =
    sym (mul-mod (m - r) (m - r) m) ∙ sym (add-mul-mod_self_right ((m - r) * (m - r)) r m)
    ∙ ap (λ t. t % m) (turn (m - r) r m (back r m below)) ∙ add-mul-mod_self_right (r * r) (m - r) m
  where
    back : (r m : ℕ) → r < m → m - r + r ≡ m
    back r m l = omega (arith, l)

    turn : (k r m : ℕ) → k + r ≡ m → k * k + r * m ≡ r * r + k * m
    turn k r m e = ap (λ t. k * k + r * t) (sym e) ∙ step k r ∙ ap (λ t. r * r + k * t) e
      where
        step : (k r : ℕ) → k * k + r * (k + r) ≡ r * r + k * (k + r)
        step k r = omega arith

-- ---- the point with one y

-- u is y^2 - 1, and v is d y^2 + 1
pub record IsRatio (Y u v : ℕ) : Type 0 where
  pub yy : ℕ
  pub product : ℕ
  pub is_yy : yy ≡ Y * Y % p
  pub is_u : u ≡ (yy + (p - 1)) % p
  pub is_product : product ≡ yy * d % p
  pub is_v : v ≡ (product + 1) % p

pub ratio_made : {Y yy one product k other u v : ℕ} → yy ≡ Y * Y % p → one ≡ 1 → u ≡ (yy + (p - one)) % p → k ≡ d
    → product ≡ yy * k % p → other ≡ 1 → v ≡ (product + other) % p → IsRatio Y u v
ratio_made {yy = yy} {product = product} is_yy is_one is_u is_k is_product is_other is_v = record {
  yy = yy;
  product = product;
  is_yy = is_yy;
  is_u = is_u ∙ ap (λ n. (yy + (p - n)) % p) is_one;
  is_product = is_product ∙ ap (λ n. yy * n % p) is_k;
  is_v = is_v ∙ ap (λ n. (product + n) % p) is_other;
}

module _ (Y u v : ℕ) (it : IsRatio Y u v) where
  some_p : 0 < p
  some_p = lit< tt

  -- its x satisfies the equation
  pub ratio_of : (a : Coordinates) → IsOnEd25519 a → a.y ≡ Y → v * (a.x * a.x) % p ≡ u
  ratio_of a on y_is =
      ratio_from_on p d some_p a.x Y it.yy it.product u v it.is_yy it.is_u it.is_product it.is_v
      (subst (λ t. (a.x * a.x + 1 + d * a.x * a.x * t * t) % p ≡ t * t % p) y_is on.equation)

  pub some_denominator : (a : Coordinates) → IsOnEd25519 a → a.y ≡ Y → v ≡ 0 → ⊥
  some_denominator a on y_is none =
      let below : Y * Y % p < p = mod-lt (Y * Y) some_p in
      denominator_some a.x it.yy u v it.product (subst (λ t. t < p) (sym it.is_yy) below) it.is_u it.is_product it.is_v
      (ratio_of a on y_is) none

  -- and has the square of each root of the ratio
  pub one_square : (a : Coordinates) (r : ℕ) → IsOnEd25519 a → a.y ≡ Y → v * (r * r) % p ≡ u
      → a.x * a.x % p ≡ r * r % p
  one_square a r on y_is of_r =
      cancelled p (has_inverses p d ed25519_is_complete) (a.x * a.x) (r * r) v
      (λ none. some_denominator a on y_is (it.is_v ∙ sym (mod-mod (it.product + 1) p)
      ∙ ap (λ t. t % p) (sym it.is_v) ∙ none))
      (ap (λ t. t % p) (mul_comm (a.x * a.x) v) ∙ ratio_of a on y_is ∙ sym of_r
      ∙ ap (λ t. t % p) (mul_comm v (r * r)))

  -- each root whose square is that of a root of the ratio is x of a point
  pub on_of : (r x : ℕ) → v * (r * r) % p ≡ u → x * x % p ≡ r * r % p
      → (x * x + 1 + d * x * x * Y * Y) % p ≡ Y * Y % p
  on_of r x of_r square =
      on_from_ratio p d some_p x Y it.yy it.product u v it.is_yy it.is_u it.is_product it.is_v
      (sym (mul-mod_second v (x * x) p) ∙ ap (λ t. v * t % p) square ∙ mul-mod_second v (r * r) p ∙ of_r)
