-- Sums with points that are prepared by their four coordinates.
use Rattle.std.proofs.Common.{◌≡◌, ℕ, zero, suc, ◌+◌, ◌-◌, ◌*◌, ◌%◌, ◌<◌, refl, sym, ◌∙◌, ap, arith, mod-lt}
use Rattle.std.proofs.Common.{mod-eq_of_lt, mul_comm}
use Rattle.std.proofs.Math.Nat.{mod-mod, mod_self, add-mod-mod, mul-mod_right}
use Rattle.std.proofs.lemmas.Nat.{mul-mod_first, mul-mod_second}
use Rattle.number_facts.proofs.CongruenceLaws.{sums, multiples, products, without}
use Rattle.edwards.specs.Edwards.{Coordinates, IsOnCurve, sum, negative}
use Rattle.edwards.specs.Curves.{IsComplete}
use Rattle.edwards.specs.Laws.Completeness.{has_inverses}
use Rattle.edwards.specs.Laws.Quotients.{product_some, some_modulus}
use Rattle.edwards.specs.Cached.{AreCached}
use Rattle.edwards.specs.Stands.{StandForApart}
use Rattle.edwards.proofs.CrossedProducts.{reduced, crossed_is, straight_is}
use Rattle.edwards.proofs.ExtendedLaws.{Four, FourStand, Joins, plus_stands}

-- how r is computed from a and from four numbers of a prepared point
pub record Mixes (p : ℕ) (a : Four) (less more scale cross : ℕ) (r : Four) : Type 0 where
  pub u : ℕ
  pub v : ℕ
  pub first : ℕ
  pub second : ℕ
  pub third : ℕ
  pub scaled : ℕ
  pub E : ℕ
  pub F : ℕ
  pub G : ℕ
  pub H : ℕ
  pub is_u : u ≡ (a.y + (p - a.x)) % p
  pub is_v : v ≡ (a.y + a.x) % p
  pub is_first : first ≡ u * less % p
  pub is_second : second ≡ v * more % p
  pub is_third : third ≡ a.t * cross % p
  pub is_scaled : scaled ≡ a.z * scale % p
  pub is_E : E ≡ (second + (p - first)) % p
  pub is_F : F ≡ (scaled + (p - third)) % p
  pub is_G : G ≡ (scaled + third) % p
  pub is_H : H ≡ (second + first) % p
  pub joins : Joins p E F G H r

-- the product of the fourth coordinates and of twice the curve's coefficient, in another order
crossed_as : (p k a t cross r : ℕ) → cross ≡ k * t % p → r ≡ a * cross % p → r ≡ k * a % p * t % p
crossed_as p k a t cross r is_cross is =
    is ∙ ap (λ n. a * n % p) is_cross ∙ mul-mod_second a (k * t) p ∙ ap (λ n. n % p) (order k a t)
    ∙ sym (mul-mod_first (k * a) t p)
  where
    order : (k a t : ℕ) → a * (k * t) ≡ k * a * t
    order k a t = omega arith

scaled_as : (p a z scale r : ℕ) → scale ≡ 2 * z % p → r ≡ a * scale % p → r % p ≡ 2 * a * z % p
scaled_as p a z scale r is_scale is =
    reduced p r (a * scale) is ∙ ap (λ n. a * n % p) is_scale ∙ mul-mod_second a (2 * z) p ∙ ap (λ n. n % p) (order a z)
  where
    order : (a z : ℕ) → a * (2 * z) ≡ 2 * a * z
    order a z = omega arith

module _ (p d : ℕ) (c : IsComplete p d) where
  pos : 0 < p
  pos = some_modulus p (has_inverses p d c)

  pub mixed_stands : (a r : Four) (less more scale cross : ℕ) → Mixes p a less more scale cross r → a.x < p
      → (s t : Coordinates) → IsOnCurve p d s → IsOnCurve p d t → FourStand p a s
      → AreCached p d less more scale cross t → FourStand p r (sum p d s t)
  mixed_stands a r less more scale cross it below s t on_s on_t of_a of_b =
      let b : Four = record { x = of_b.X; y = of_b.Y; z = of_b.Z; t = of_b.T } in
      plus_stands p d c a b r (record {
        k = 2 * d % p;
        crossed = it.third;
        scale = it.scaled;
        E = it.E;
        F = it.F;
        G = it.G;
        H = it.H;
        is_k = refl;
        is_crossed = crossed_as p (2 * d % p) a.t of_b.T cross it.third of_b.cross_is it.is_third;
        is_scale = scaled_as p a.z of_b.Z scale it.scaled of_b.scale_is it.is_scaled;
        is_E = crossed_is p a.x a.y of_b.X of_b.Y it.u less it.v more it.first it.second pos below of_b.x_below it.is_u
            of_b.less_is it.is_first it.is_v of_b.more_is it.is_second it.E it.is_E;
        is_F = it.is_F;
        is_G = it.is_G;
        is_H = straight_is p a.x a.y of_b.X of_b.Y it.u less it.v more it.first it.second pos below of_b.x_below it.is_u
            of_b.less_is it.is_first it.is_v of_b.more_is it.is_second it.H it.is_H;
        joins = it.joins;
      }) s t on_s on_t of_a of_b.stands

  scaled_by : (n a z r w : ℕ) → r ≡ n * z % p → w ≡ z * z % p → n % p ≡ a * z % p → r % p ≡ a * w % p
  scaled_by n a z r w is_r is_w e =
      reduced p r (n * z) is_r ∙ multiples p n (a * z) z e ∙ ap (λ n. n % p) (order a z)
      ∙ sym (mul-mod_second a (z * z) p) ∙ ap (λ n. a * n % p) (sym is_w)
    where
      order : (a z : ℕ) → a * z * z ≡ a * (z * z)
      order a z = omega arith

  -- three coordinates, all times the third, and the product of the first two
  pub whole_stands : (X Y Z : ℕ) (r : Four) → r.x ≡ X * Z % p → r.y ≡ Y * Z % p → r.z ≡ Z * Z % p → r.t ≡ X * Y % p
      → (s : Coordinates) → StandForApart p X Y Z s → FourStand p r s
  whole_stands X Y Z r is_x is_y is_z is_t s of_e = record {
    some = λ none. product_some p (has_inverses p d c) Z Z of_e.some of_e.some
        (sym (reduced p r.z (Z * Z) is_z) ∙ none);
    first = scaled_by X s.x Z r.x r.z is_x is_z of_e.first;
    second = scaled_by Y s.y Z r.y r.z is_y is_z of_e.second;
    both = reduced p r.t (X * Y) is_t ∙ products p X (s.x * Z) Y (s.y * Z) of_e.first of_e.second
        ∙ ap (λ n. n % p) (order s.x s.y Z) ∙ sym (mul-mod_second (s.x * s.y) (Z * Z) p)
        ∙ ap (λ n. s.x * s.y * n % p) (sym is_z);
  }
    where
      order : (x y z : ℕ) → x * z * (y * z) ≡ x * y * (z * z)
      order x y z = omega arith

-- what a number and its factor lack to p
negated : (p a b z : ℕ) → 0 < p → a < p → b < p → a % p ≡ b * z % p → (p - a) % p ≡ (p - b) % p * z % p
negated p a b z pos a_below b_below e =
    without p (p - a) ((p - b) * z) (a + p * z) (b * z + p) pos
    (turn p a b z (p - a) (p - b) (omega arith) (omega arith))
    (sums p a (b * z) (p * z) p e (mul-mod_right p z ∙ sym (mod_self p)))
    ∙ sym (mul-mod_first (p - b) z p)
  where
    turn : (p a b z r q : ℕ) → a + r ≡ p → b + q ≡ p → r + (a + p * z) ≡ q * z + (b * z + p)
    turn p a b z r q is_r is_q = let whole : (b + q) * z ≡ p * z = ap (λ n. n * z) is_q in omega (arith, is_r, whole)

lacking_twice : (p x y : ℕ) → 0 < p → x < p → (y + x) % p ≡ (y + (p - (p - x) % p)) % p
lacking_twice p zero y some below =
    sums p y y 0 p refl (mod-eq_of_lt some ∙ sym (mod_self p)) ∙ ap (λ n. (y + n) % p) (sym (all p))
    ∙ ap (λ n. (y + (p - n)) % p) (sym (ap (λ n. n % p) (all p) ∙ mod_self p))
  where
    all : (p : ℕ) → p - 0 ≡ p
    all p = omega arith
lacking_twice p (suc x) y some below =
    ap (λ n. (y + n) % p) (back p (suc x) below ∙ ap (λ n. p - n) (sym (mod-eq_of_lt (less p x some))))
  where
    back : (p x : ℕ) → x < p → x ≡ p - (p - x)
    back p x l = omega arith

    less : (p x : ℕ) → 0 < p → p - suc x < p
    less p x l = omega arith

-- the negative of a prepared point
pub negative_cached : (p d less more scale cross minus : ℕ) → minus ≡ (p - cross) % p → (s : Coordinates)
    → IsOnCurve p d s → AreCached p d less more scale cross s → AreCached p d more less scale minus (negative p s)
negative_cached p d less more scale cross minus is_minus s on of_b =
    let X = of_b.X in
    let T = of_b.T in
    let Z = of_b.Z in
    let k = 2 * d % p in
    let pos : 0 < p = omega (arith, on.x_below) in
    let cross_below : cross < p = let l : k * T % p < p = mod-lt (k * T) pos in omega (arith, of_b.cross_is, l) in
    record {
      X = (p - X) % p;
      Y = of_b.Y;
      Z = Z;
      T = (p - T) % p;
      x_below = mod-lt (p - X) pos;
      t_below = mod-lt (p - T) pos;
      stands = record {
        some = of_b.stands.some;
        first = mod-mod (p - X) p ∙ negated p X s.x Z pos of_b.x_below on.x_below of_b.stands.first;
        second = of_b.stands.second;
        both = mod-mod (p - T) p
            ∙ negated p T s.x (s.y * Z) pos of_b.t_below on.x_below
            (of_b.stands.both ∙ ap (λ n. n % p) (apart s.x s.y Z))
            ∙ ap (λ n. n % p) (sym (apart ((p - s.x) % p) s.y Z));
      };
      less_is = of_b.more_is ∙ lacking_twice p X of_b.Y pos of_b.x_below;
      more_is = of_b.less_is ∙ sym (add-mod-mod of_b.Y (p - X) p);
      scale_is = of_b.scale_is;
      cross_is = is_minus
          ∙ negated p cross T k pos cross_below of_b.t_below
          (reduced p cross (k * T) of_b.cross_is ∙ ap (λ n. n % p) (mul_comm k T))
          ∙ ap (λ n. n % p) (mul_comm ((p - T) % p) k);
    }
  where
    apart : (x y z : ℕ) → x * y * z ≡ x * (y * z)
    apart x y z = omega arith
