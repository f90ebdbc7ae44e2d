-- Sums in extended coordinates stand for sums.
use Rattle.std.proofs.Common.{◌≡◌, ℕ, ◌+◌, ◌-◌, ◌*◌, ◌%◌, ◌<◌, refl, sym, ◌∙◌, ap, arith}
use Rattle.std.proofs.Common.{mod-lt, mod-eq_of_lt, mul_comm}
use Rattle.std.proofs.lemmas.Nat.{mul-mod_first}
use Rattle.number_facts.proofs.CongruenceLaws.{sums, multiples}
use Rattle.edwards.specs.Edwards.{Coordinates, IsOnCurve, cross, sum}
use Rattle.edwards.specs.Curves.{IsComplete}
use Rattle.edwards.specs.Laws.Quotients.{HasInverses, some_modulus, product_some, less}
use Rattle.edwards.specs.Laws.CurveLaws.{NoCrossIsOne, above_some, below_some, x_of, y_of}
use Rattle.edwards.specs.Laws.Completeness.{has_inverses, complete}
use Rattle.edwards.specs.Stands.{StandFor}
use Rattle.edwards.proofs.CrossedProducts.{reduced, taken_back}
use Rattle.edwards.proofs.ExtendedFacts.{first_numerator, second_numerator, first_denominator, second_denominator}
use Rattle.edwards.proofs.ExtendedFacts.{double_denominator, double_other, joined_first, joined_second, joined_both}

-- numbers X, Y, Z and T
pub record Four : Type 0 where
  pub x : ℕ
  pub y : ℕ
  pub z : ℕ
  pub t : ℕ

-- that stand for a point
abbrev pub FourStand : ℕ → Four → Coordinates → Type 0
FourStand p e a = StandFor p e.x e.y e.z e.t a

-- the four numbers of x = E / G and y = H / F
pub record Joins (p E F G H : ℕ) (r : Four) : Type 0 where
  pub x : r.x ≡ E * F % p
  pub y : r.y ≡ G * H % p
  pub z : r.z ≡ F * G % p
  pub t : r.t ≡ E * H % p

-- how r is computed from a and b by k, twice the curve's coefficient
pub record Adds (p d : ℕ) (a b r : Four) : Type 0 where
  pub k : ℕ
  pub crossed : ℕ
  pub scale : ℕ
  pub E : ℕ
  pub F : ℕ
  pub G : ℕ
  pub H : ℕ
  pub is_k : k ≡ 2 * d % p
  pub is_crossed : crossed ≡ k * a.t % p * b.t % p
  pub is_scale : scale % p ≡ 2 * a.z * b.z % p
  pub is_E : E ≡ 2 * (a.x * b.y + a.y * b.x) % p
  pub is_F : F ≡ (scale + (p - crossed)) % p
  pub is_G : G ≡ (scale + crossed) % p
  pub is_H : H ≡ 2 * (a.y * b.y + a.x * b.x) % p
  pub joins : Joins p E F G H r

-- how r is computed from a, as its double
pub record Doubled (p : ℕ) (a r : Four) : Type 0 where
  pub x : ℕ
  pub y : ℕ
  pub z : ℕ
  pub scale : ℕ
  pub E : ℕ
  pub F : ℕ
  pub G : ℕ
  pub H : ℕ
  pub is_x : x ≡ a.x * a.x % p
  pub is_y : y ≡ a.y * a.y % p
  pub is_z : z ≡ a.z * a.z % p
  pub is_scale : scale ≡ 2 * z % p
  pub is_E : E ≡ 2 * (a.x * a.y % p) % p
  pub is_F : F ≡ (scale + (p - G)) % p
  pub is_G : G ≡ (y + (p - x)) % p
  pub is_H : H ≡ (y + x) % p
  pub joins : Joins p E F G H r

twice_mod : (m a b c : ℕ) → a % m ≡ b * c % m → 2 * a % m ≡ b * (2 * c) % m
twice_mod m a b c e =
    ap (λ n. n % m) (mul_comm 2 a) ∙ multiples m a (b * c) 2 e ∙ ap (λ n. n % m) (turn b c)
  where
    turn : (b c : ℕ) → b * c * 2 ≡ b * (2 * c)
    turn b c = omega arith

-- the product of the curve's coefficient, doubled, and of two numbers
crossed_mod : (m k a b c n : ℕ) → k ≡ 2 * c % m → n ≡ k * a % m * b % m → n % m ≡ c * (2 * a) * b % m
crossed_mod m k a b c n is_k is_n =
    reduced m n (k * a % m * b) is_n ∙ mul-mod_first (k * a) b m ∙ ap (λ n. n % m) (apart k a b)
    ∙ ap (λ k. k * (a * b) % m) is_k ∙ mul-mod_first (2 * c) (a * b) m ∙ ap (λ n. n % m) (turn c a b)
  where
    apart : (k a b : ℕ) → k * a * b ≡ k * (a * b)
    apart k a b = omega arith

    turn : (c a b : ℕ) → 2 * c * (a * b) ≡ c * (2 * a) * b
    turn c a b = omega arith

-- the product of the third coordinates, doubled
pub scale_is : (m a b n scale : ℕ) → n ≡ a * b % m → scale ≡ 2 * n % m → scale % m ≡ 2 * a * b % m
scale_is m a b n scale is_n is_scale =
    reduced m scale (2 * n) is_scale ∙ twice_mod m n a b (reduced m n (a * b) is_n) ∙ ap (λ n. n % m) (turn a b)
  where
    turn : (a b : ℕ) → a * (2 * b) ≡ 2 * a * b
    turn a b = omega arith

-- the same where one of them is 1
pub single_scale : (m a scale : ℕ) → scale ≡ 2 * a % m → scale % m ≡ 2 * a * 1 % m
single_scale m a scale is_scale = reduced m scale (2 * a) is_scale ∙ ap (λ n. n % m) (single (2 * a))
  where
    single : (a : ℕ) → a ≡ a * 1
    single a = omega arith

module _ (p d : ℕ) (c : IsComplete p d) where
  f : HasInverses p
  f = has_inverses p d c

  all : NoCrossIsOne p d
  all = complete p d c

  abbrev above : Coordinates → Coordinates → ℕ
  above s t = 1 + cross d s t

  abbrev below : Coordinates → Coordinates → ℕ
  below s t = 1 + (p - cross d s t % p)

  pos : 0 < p
  pos = some_modulus p f

  below_p : (n a : ℕ) → n ≡ a % p → n < p
  below_p n a e = let l : a % p < p = mod-lt a pos in omega (arith, e, l)

  two_some : 2 % p ≡ 0 → ⊥
  two_some e = clash (sym (mod-eq_of_lt (omega (arith, c.big))) ∙ e)
    where
      clash : ◌≡◌ {A = ℕ} 2 0 → ⊥
      clash h = omega arith

  abbrev twice : Four → Four
  twice a = record { x = 2 * a.x; y = 2 * a.y; z = 2 * a.z; t = 2 * a.t }

  -- twice all four numbers stand for the same point
  twice_all : (e : Four) (s : Coordinates) → FourStand p e s → FourStand p (twice e) s
  twice_all e s of_e = record {
    some = product_some p f 2 e.z two_some of_e.some;
    first = twice_mod p e.x s.x e.z of_e.first;
    second = twice_mod p e.y s.y e.z of_e.second;
    both = twice_mod p e.t (s.x * s.y) e.z of_e.both;
  }

  -- numerators and denominators, all times a common factor, give the sum
  module _ (E F G H : ℕ) (r : Four) (joins : Joins p E F G H r) (s t : Coordinates) where
    joined_stands : (z : ℕ) → IsOnCurve p d s → IsOnCurve p d t → (z % p ≡ 0 → ⊥)
        → E % p ≡ (sum p d s t).x * (above s t * z) % p → F % p ≡ below s t * z % p → G % p ≡ above s t * z % p
        → H % p ≡ (sum p d s t).y * (below s t * z) % p → FourStand p r (sum p d s t)
    joined_stands z on_s on_t some hE hF hG hH =
        let u : ℕ = (sum p d s t).x in
        let v : ℕ = (sum p d s t).y in
        let some_g : G % p ≡ 0 → ⊥ =
        λ e. product_some p f (above s t) z (above_some p d f all s t on_s on_t) some (sym hG ∙ e) in
        let some_f : F % p ≡ 0 → ⊥ =
        λ e. product_some p f (below s t) z (below_some p d f all s t on_s on_t) some (sym hF ∙ e) in
        let times : (w : ℕ) → w * (F * G) % p ≡ w * r.z % p =
        λ w. ap (λ n. n % p) (mul_comm w (F * G)) ∙ sym (mul-mod_first (F * G) w p)
        ∙ ap (λ n. n * w % p) (sym joins.z) ∙ ap (λ n. n % p) (mul_comm r.z w) in
        record {
          some = λ e. product_some p f F G some_f some_g (sym (reduced p r.z (F * G) joins.z) ∙ e);
          first = reduced p r.x (E * F) joins.x ∙ joined_first p E G F u (above s t * z) pos hE hG ∙ times u;
          second = reduced p r.y (G * H) joins.y ∙ joined_second p H F G v (below s t * z) pos hH hF ∙ times v;
          both = reduced p r.t (E * H) joins.t
              ∙ joined_both p E H F G u v (above s t * z) (below s t * z) pos hE hH hF hG ∙ times (u * v);
        }

  -- the sum of two points
  module _ (a b : Four) (s t : Coordinates) (on_s : IsOnCurve p d s) (on_t : IsOnCurve p d t) (of_a : FourStand p a s)
      (of_b : FourStand p b t) (crossed scale : ℕ) where
    sum_stands : (E F G H : ℕ) (r : Four) → scale % p ≡ a.z * b.z % p → crossed < p → crossed % p ≡ d * a.t * b.t % p
        → E % p ≡ (a.x * b.y + a.y * b.x) % p → F ≡ (scale + (p - crossed)) % p → G ≡ (scale + crossed) % p
        → H % p ≡ (a.y * b.y + a.x * b.x) % p → Joins p E F G H r → FourStand p r (sum p d s t)
    sum_stands E F G H r is_scale small is_crossed is_E is_F is_G is_H joins =
        joined_stands E F G H r joins s t (a.z * b.z) on_s on_t (product_some p f a.z b.z of_a.some of_b.some)
        (is_E ∙ first_numerator p a.x a.y b.x b.y a.z b.z (sum p d s t).x (above s t) s.x s.y t.x t.y pos of_a.first
        of_a.second of_b.first of_b.second (x_of p d f all s t on_s on_t))
        (second_denominator p F (below s t) a.t b.t a.z b.z s.x s.y t.x t.y d pos
        (sums p F F (d * a.t * b.t) crossed refl (sym is_crossed) ∙ ap (λ n. (n + crossed) % p) is_F
        ∙ taken_back p scale crossed small ∙ is_scale) of_a.both of_b.both (less p (cross d s t) pos))
        (reduced p G (scale + crossed) is_G ∙ sums p scale (a.z * b.z) crossed (d * a.t * b.t) is_scale is_crossed
        ∙ first_denominator p a.t b.t a.z b.z s.x s.y t.x t.y d pos of_a.both of_b.both)
        (is_H ∙ second_numerator p a.x a.y b.x b.y a.z b.z (sum p d s t).y (below s t) s.x s.y t.x t.y pos of_a.first
        of_a.second of_b.first of_b.second (y_of p d f all s t on_s on_t))

  -- the same, all doubled
  pub plus_stands : (a b r : Four) → Adds p d a b r → (s t : Coordinates) → IsOnCurve p d s → IsOnCurve p d t
      → FourStand p a s → FourStand p b t → FourStand p r (sum p d s t)
  plus_stands a b r it s t on_s on_t of_a of_b =
      sum_stands (twice a) b s t on_s on_t (twice_all a s of_a) of_b it.crossed it.scale it.E it.F it.G it.H r
      it.is_scale
      (below_p it.crossed (it.k * a.t % p * b.t) it.is_crossed)
      (crossed_mod p it.k a.t b.t d it.crossed it.is_k it.is_crossed)
      (reduced p it.E (2 * (a.x * b.y + a.y * b.x)) it.is_E ∙ ap (λ n. n % p) (spread a.x b.y a.y b.x)) it.is_F it.is_G
      (reduced p it.H (2 * (a.y * b.y + a.x * b.x)) it.is_H ∙ ap (λ n. n % p) (spread a.y b.y a.x b.x)) it.joins
    where
      spread : (a b c e : ℕ) → 2 * (a * b + c * e) ≡ 2 * a * b + 2 * c * e
      spread a b c e = omega arith

  -- the double of a point
  pub double_stands : (a r : Four) → Doubled p a r → (s : Coordinates) → IsOnCurve p d s → FourStand p a s
      → FourStand p r (sum p d s s)
  double_stands a r it s on of_a =
      let x_mod : it.x % p ≡ a.x * a.x % p = reduced p it.x (a.x * a.x) it.is_x in
      let y_mod : it.y % p ≡ a.y * a.y % p = reduced p it.y (a.y * a.y) it.is_y in
      let scale_mod : it.scale % p ≡ 2 * (a.z * a.z) % p =
      reduced p it.scale (2 * it.z) it.is_scale ∙ ap (λ n. n % p) (mul_comm 2 it.z)
      ∙ multiples p it.z (a.z * a.z) 2 (reduced p it.z (a.z * a.z) it.is_z)
      ∙ ap (λ n. n % p) (mul_comm (a.z * a.z) 2) in
      let e_mod : it.E % p ≡ (a.x * a.y + a.y * a.x) % p =
      reduced p it.E (2 * (a.x * a.y % p)) it.is_E ∙ ap (λ n. n % p) (mul_comm 2 (a.x * a.y % p))
      ∙ mul-mod_first (a.x * a.y) 2 p ∙ ap (λ n. n % p) (both_ways a.x a.y) in
      let g_mod : it.G % p ≡ above s s * (a.z * a.z) % p =
      double_denominator p it.G a.x a.y a.z s.x s.y d pos
      (sums p it.G it.G (a.x * a.x) it.x refl (sym x_mod) ∙ ap (λ n. (n + it.x) % p) it.is_G
      ∙ taken_back p it.y it.x (below_p it.x (a.x * a.x) it.is_x) ∙ y_mod)
      of_a.first of_a.second on.equation in
      joined_stands it.E it.F it.G it.H r it.joins s s (a.z * a.z) on on (product_some p f a.z a.z of_a.some of_a.some)
      (e_mod ∙ first_numerator p a.x a.y a.x a.y a.z a.z (sum p d s s).x (above s s) s.x s.y s.x s.y pos of_a.first
      of_a.second of_a.first of_a.second (x_of p d f all s s on on))
      (double_other p it.F it.G (below s s) a.z s.x s.y d pos
      (ap (λ n. (n + it.G) % p) it.is_F ∙ taken_back p it.scale it.G (below_p it.G (it.y + (p - it.x)) it.is_G)
      ∙ scale_mod) g_mod (less p (cross d s s) pos))
      g_mod
      (reduced p it.H (it.y + it.x) it.is_H ∙ sums p it.y (a.y * a.y) it.x (a.x * a.x) y_mod x_mod
      ∙ second_numerator p a.x a.y a.x a.y a.z a.z (sum p d s s).y (below s s) s.x s.y s.x s.y pos of_a.first
      of_a.second of_a.first of_a.second (y_of p d f all s s on on))
    where
      both_ways : (x y : ℕ) → x * y * 2 ≡ x * y + y * x
      both_ways x y = omega arith
