-- The first coordinate of an element of the prime subgroup tells it.
use Rattle.std.proofs.Common.{◌≡◌, ℕ, ◌+◌, ◌-◌, ◌*◌, ◌/◌, ◌%◌, ⊎_elim, refl, sym, ◌∙◌, ap, subst}
use Rattle.std.proofs.Common.{arith, lit<}
use Rattle.std.proofs.Math.Nat.{zero-mod, add-mul-mod_self_right, mul-mod_left}
use Rattle.number_facts.proofs.CongruenceLaws.{sums, products}
use Rattle.number_facts.proofs.Units.{no_root}
use Rattle.ark_wide_fields.specs.Laws.Bls12_381Fr.{prime_factors, generates}
use Rattle.jubjub.specs.declared.element.Jubjub.{Jubjub}
use Rattle.jubjub.specs.Edwards.{Coordinates, cross, sum, neutral}
use Rattle.jubjub.specs.Jubjub.{p, d, order, IsOnJubjub}
use Rattle.jubjub.specs.Elements.{coordinates, jubjub}
use Rattle.edwards.specs.Laws.CurveLaws.{same_coordinates, above_some, below_some}
use Rattle.jubjub.specs.Laws.Completeness.{complete}
use Rattle.jubjub.specs.Laws.Elements.{same_element}
use Rattle.jubjub.specs.Laws.Group.{jubjub_laws, at-identity, at-plus, at-opposite}
use Rattle.jubjub.specs.Laws.Modulus.{has_inverses, d_is_no_square}
use Rattle.edwards.specs.Laws.Quotients.{cancelled, is_over}
use Rattle.jubjub.specs.Laws.PrimeOrder.{of_prime_order}
use Rattle.jubjub.specs.Laws.FirstCoordinates.{one_root}

one_below : 1 % p ≡ 1
one_below = refl

-- ---- the square of y over x

-- where y^2 - t z^2 is z^2 - t y^2, y^2 is z^2 unless t is 1
same_square_of : (t y z : ℕ) → (t % p ≡ 1 → ⊥) → (y * y + t * z * z) % p ≡ (z * z + t * y * y) % p
    → y * y % p ≡ z * z % p
same_square_of t y z other e =
    cancelled p has_inverses (y * y) (z * z) (1 + (p - 1) * t) some
    (left t y z ∙ sums p (y * y + t * z * z) (z * z + t * y * y) ((p - 1) * (t * (y * y) + t * (z * z)))
    ((p - 1) * (t * (y * y) + t * (z * z))) e refl ∙ sym (left' t y z))
  where
    left : (t y z : ℕ) → y * y * (1 + (p - 1) * t) % p ≡ (y * y + t * z * z + (p - 1) * (t * (y * y) + t * (z * z))) % p
    left t y z = sym (ap (λ n. n % p) (ring t y z) ∙ add-mul-mod_self_right (y * y * (1 + (p - 1) * t)) (t * z * z) p)
      where
        ring : (t y z : ℕ) → y * y + t * z * z + (p - 1) * (t * (y * y) + t * (z * z))
            ≡ y * y * (1 + (p - 1) * t) + t * z * z * p
        ring t y z = omega arith

    left' : (t y z : ℕ) → z * z * (1 + (p - 1) * t) % p
        ≡ (z * z + t * y * y + (p - 1) * (t * (y * y) + t * (z * z))) % p
    left' t y z = sym (ap (λ n. n % p) (ring t y z) ∙ add-mul-mod_self_right (z * z * (1 + (p - 1) * t)) (t * y * y) p)
      where
        ring : (t y z : ℕ) → z * z + t * y * y + (p - 1) * (t * (y * y) + t * (z * z))
            ≡ z * z * (1 + (p - 1) * t) + t * y * y * p
        ring t y z = omega arith

    some : (1 + (p - 1) * t) % p ≡ 0 → ⊥
    some none =
        other (ap (λ n. n % p) (plain t) ∙ sums p 0 (1 + (p - 1) * t) t t (zero-mod p ∙ sym none) refl
        ∙ ap (λ n. n % p) (whole t) ∙ add-mul-mod_self_right 1 t p ∙ one_below)
      where
        plain : (t : ℕ) → t ≡ 0 + t
        plain t = omega arith

        whole : (t : ℕ) → 1 + (p - 1) * t + t ≡ 1 + t * p
        whole t = omega arith

-- d x^2 is not 1 modulo p: d is no square
coefficient_differs : (x : ℕ) → d * x * x % p ≡ 1 → ⊥
coefficient_differs x e = ends zero_x
  where
    turn : (a x : ℕ) → a * (x * x) ≡ a * x * x
    turn a x = omega arith

    zero_x : x % p ≡ 0
    zero_x = no_root p 7 (p - 1) prime_factors generates d ((p - 1) / 2) refl (lit< tt) (lit< tt) d_is_no_square x
        1 (ap (λ t. t % p) (turn d x) ∙ e ∙ refl)

    ends : x % p ≡ 0 → ⊥
    ends z = clash (sym (products p (d * x) (d * x) x 0 refl (z ∙ sym (zero-mod p)) ∙ ap (λ t. t % p) (never (d * x))
        ∙ zero-mod p) ∙ e)
      where
        never : (a : ℕ) → a * 0 ≡ 0
        never a = omega arith

        clash : ◌≡◌ {A = ℕ} 0 1 → ⊥
        clash h = omega (arith, h)

second_squares : (x y z : ℕ) → (x * x + 1 + d * x * x * y * y) % p ≡ y * y % p
    → (x * x + 1 + d * x * x * z * z) % p ≡ z * z % p → y * y % p ≡ z * z % p
second_squares x y z on_y on_z =
    same_square_of (d * x * x) y z (coefficient_differs x)
    (sums p (y * y) (x * x + 1 + d * x * x * y * y) (d * x * x * z * z) (d * x * x * z * z) (sym on_y) refl
    ∙ ap (λ n. n % p) (swap (x * x + 1) (d * x * x * y * y) (d * x * x * z * z))
    ∙ sums p (x * x + 1 + d * x * x * z * z) (z * z) (d * x * x * y * y) (d * x * x * y * y) on_z refl)
  where
    swap : (a b c : ℕ) → a + b + c ≡ a + c + b
    swap a b c = omega arith

-- ---- elements

-- an element that is zero when it is doubled is zero
pub no_half : (s : Jubjub) → jubjub.plus s s ≡ jubjub.identity → s ≡ jubjub.identity
unfolding order
no_half s twice =
    of_prime_order 2 s (ap (λ t. jubjub.plus t s) (jubjub_laws.left_identity s) ∙ twice) two_some
  where
    clash : ◌≡◌ {A = ℕ} 2 0 → ⊥
    clash h = omega (arith, h)

    two_some : 2 % order ≡ 0 → ⊥
    two_some e = clash e

-- coordinates (0, y) of the curve have the square 1
zero_first : (y : ℕ) → IsOnJubjub (record { x = 0; y = y }) → y * y % p ≡ 1
zero_first y on = sym on.equation ∙ ap (λ t. t % p) (plain d y) ∙ one_below
  where
    plain : (d y : ℕ) → 0 * 0 + 1 + d * 0 * 0 * y * y ≡ 1
    plain d y = omega arith

-- an element with the first coordinate 0 is zero
module _ (s : Jubjub) (first : (coordinates s).x ≡ 0) where
  square : (coordinates s).y * (coordinates s).y % p ≡ 1
  square = zero_first (coordinates s).y (subst (λ (x : ℕ). IsOnJubjub (record { x = x; y = (coordinates s).y })) first
      s.in_subgroup.on_curve)

  double_x : (x y : ℕ) → x ≡ 0 → (k : ℕ) → 0 * k % p ≡ (x * y + y * x) % p
  double_x x y is k = ap (λ n. n % p) (none k) ∙ ap (λ n. n % p) (none' y) ∙ ap (λ n. (n * y + y * n) % p) (sym is)
    where
      none : (k : ℕ) → 0 * k ≡ 0
      none k = omega arith

      none' : (y : ℕ) → 0 ≡ 0 * y + y * 0
      none' y = omega arith

  double_y : (x y : ℕ) → x ≡ 0 → y * y % p ≡ 1 → 1 * (1 + (p - d * x * x * y * y % p)) % p ≡ (y * y + x * x) % p
  double_y x y is one =
      ap (λ n. 1 * (1 + (p - d * n * n * y * y % p)) % p) is ∙ ap (λ n. 1 * (1 + (p - n % p)) % p) (none d y)
      ∙ sym one ∙ ap (λ n. n % p) (plain y) ∙ ap (λ n. (y * y + n * n) % p) (sym is)
    where
      none : (d y : ℕ) → d * 0 * 0 * y * y ≡ 0
      none d y = omega arith

      plain : (y : ℕ) → y * y ≡ y * y + 0 * 0
      plain y = omega arith

  doubled : jubjub.plus s s ≡ jubjub.identity
  doubled =
      let c = coordinates s in
      let on = s.in_subgroup.on_curve in
      same_element (jubjub.plus s s) jubjub.identity
      (at-plus s s ∙ same_coordinates (sum p d c c) neutral
      (sym (is_over p has_inverses 0 (c.x * c.y + c.y * c.x) (1 + cross d c c)
      (above_some p d has_inverses complete c c on on) (lit< tt) (double_x c.x c.y first (1 + cross d c c))))
      (sym (is_over p has_inverses 1 (c.y * c.y + c.x * c.x) (1 + (p - cross d c c % p))
      (below_some p d has_inverses complete c c on on) (lit< tt) (double_y c.x c.y first square)))
      ∙ sym at-identity)

  pub zero_by_first : s ≡ jubjub.identity
  zero_by_first = no_half s doubled

module _ (a b : Jubjub) (same_x : (coordinates a).x ≡ (coordinates b).x)
    (opposite_y : (coordinates a).y + (coordinates b).y ≡ p) where
  numerator : (x y x' y' k : ℕ) → x ≡ x' → y + y' ≡ p → 0 * k % p ≡ (x * y' + y * x') % p
  numerator x y x' y' k same e =
      ap (λ n. n % p) (none k) ∙ zero-mod p ∙ sym (mul-mod_left x p) ∙ ap (λ n. x * n % p) (sym e)
      ∙ ap (λ n. n % p) (ring x y y') ∙ ap (λ n. (x * y' + y * n) % p) same
    where
      none : (k : ℕ) → 0 * k ≡ 0
      none k = omega arith

      ring : (x y z : ℕ) → x * (y + z) ≡ x * z + y * x
      ring x y z = omega arith

  -- the sum has the first coordinate 0
  sum_first : (coordinates (jubjub.plus a b)).x ≡ 0
  sum_first =
      let c = coordinates a in
      let e = coordinates b in
      ap (λ (c : Coordinates). c.x) (at-plus a b)
      ∙ sym (is_over p has_inverses 0 (c.x * e.y + c.y * e.x) (1 + cross d c e)
      (above_some p d has_inverses complete c e a.in_subgroup.on_curve b.in_subgroup.on_curve) (lit< tt)
      (numerator c.x c.y e.x e.y (1 + cross d c e) same_x opposite_y))

  -- so the second is the negative of the first
  is_opposite : b ≡ jubjub.opposite a
  is_opposite =
      sym (jubjub_laws.left_identity b) ∙ ap (λ z. jubjub.plus z b) (sym (jubjub_laws.left_opposite a))
      ∙ jubjub_laws.assoc (jubjub.opposite a) a b
      ∙ ap (jubjub.plus (jubjub.opposite a)) (zero_by_first (jubjub.plus a b) sum_first)
      ∙ jubjub_laws.comm (jubjub.opposite a) jubjub.identity ∙ jubjub_laws.left_identity (jubjub.opposite a)

  pub same_opposite : a ≡ b
  same_opposite =
      same_element a b (same_coordinates (coordinates a) (coordinates b) same_x
      (sym (ap (λ (z : Jubjub). (coordinates z).y) is_opposite ∙ ap (λ (c : Coordinates). c.y) (at-opposite a))))

pub same_first : (a b : Jubjub) → (coordinates a).x ≡ (coordinates b).x → a ≡ b
same_first a b same_x =
    let on_a = a.in_subgroup.on_curve in
    let on_b : IsOnJubjub (record { x = (coordinates a).x; y = (coordinates b).y }) =
    subst (λ (x : ℕ). IsOnJubjub (record { x = x; y = (coordinates b).y })) (sym same_x) b.in_subgroup.on_curve in
    ⊎_elim {C = a ≡ b}
    (λ e. same_element a b (same_coordinates (coordinates a) (coordinates b) same_x e))
    (λ e. same_opposite a b same_x e)
    (one_root p has_inverses refl (coordinates a).y (coordinates b).y on_a.y_below on_b.y_below
    (second_squares (coordinates a).x (coordinates a).y (coordinates b).y on_a.equation on_b.equation))
