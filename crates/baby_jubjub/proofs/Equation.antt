-- The equation of a signature, on the curve whose first coefficient is -1.
use Rattle.std.proofs.Common.{◌≡◌, ℕ, ◌+◌, ◌*◌, ◌%◌, ◌<◌, refl, sym, ◌∙◌, ap, ap₂, arith, lit<, mod-lt, mul_comm, subst}
use Rattle.number_facts.proofs.CongruenceLaws.{sums, products}
use Rattle.ark_groups.specs.Group.{Group, IsCommutativeGroup, times}
use Rattle.ark_groups.proofs.Multiples.{times-add, times-mul, times-mod, times-plus, times-identity, right_identity}
use Rattle.edwards.specs.Edwards.{Coordinates, neutral, sum, edwards}
use Rattle.edwards.specs.Laws.Points.{Point, points, points_laws, same_point, at-times}
use Rattle.ark_sponge.specs.Permutation.{Parameters}
use Rattle.baby_jubjub.specs.BabyJubjub.{p, d, order, curve, base8, scaled, IsOnBabyJubjub}
use Rattle.baby_jubjub.specs.Eddsa.{eddsa_challenge, IsEddsaSignature, IsSignedWith}
use Rattle.baby_jubjub.specs.Laws.Curve.{baby_jubjub_is_complete}
use Rattle.baby_jubjub.specs.Laws.Base.{base8_on, scaled_of_order}
use Rattle.baby_jubjub.proofs.Carried.{carried_on, one_carried, sum_is, sum_on, times_is, times_on}
use Rattle.baby_jubjub.proofs.Reduced.{low}

-- ---- in any commutative group

module _ {A : Type 0} {g : Group A} (rules : IsCommutativeGroup g) where
  -- where z takes away y and r' takes away r, x with both is zero exactly where x is r and y
  pub balanced : (x y z r r' : A) → g.plus z y ≡ g.identity → g.plus r' r ≡ g.identity → x ≡ g.plus r y
      → g.plus (g.plus x z) r' ≡ g.identity
  balanced x y z r r' of_y of_r e =
      ap (λ n. g.plus (g.plus n z) r') e
      ∙ ap (λ n. g.plus n r') (rules.assoc r y z ∙ ap (g.plus r) (rules.comm y z ∙ of_y) ∙ right_identity rules r)
      ∙ rules.comm r r' ∙ of_r

  pub balance : (x y z r r' : A) → g.plus z y ≡ g.identity → g.plus r' r ≡ g.identity
      → g.plus (g.plus x z) r' ≡ g.identity → x ≡ g.plus r y
  balance x y z r r' of_y of_r e =
      sym (right_identity rules x) ∙ ap (g.plus x) (sym of_y) ∙ sym (rules.assoc x z y) ∙ ap (λ n. g.plus n y) rest
    where
      rest : g.plus x z ≡ r
      rest = sym (right_identity rules (g.plus x z)) ∙ ap (g.plus (g.plus x z)) (sym of_r)
          ∙ sym (rules.assoc (g.plus x z) r' r) ∙ ap (λ n. g.plus n r) e ∙ rules.left_identity r

  -- a double of a double of a double
  pub eight_times : (x : A) → (let two = g.plus x x in let four = g.plus two two in g.plus four four) ≡ times g 8 x
  eight_times x =
      let two : g.plus x x ≡ times g 2 x = ap (λ n. g.plus n x) (sym (rules.left_identity x)) in
      let four : g.plus (g.plus x x) (g.plus x x) ≡ times g 4 x = ap₂ g.plus two two ∙ sym (times-add rules 2 2 x) in
      ap₂ g.plus four four ∙ sym (times-add rules 4 4 x)

  -- multiples of the negative
  pub taken : (h : ℕ) (x : A) → g.plus (times g h (times g 8 (g.opposite x))) (times g (8 * h) x) ≡ g.identity
  taken h x =
      ap (λ n. g.plus n (times g (8 * h) x)) (sym (times-mul rules h 8 (g.opposite x))
      ∙ ap (λ n. times g n (g.opposite x)) (mul_comm h 8))
      ∙ sym (times-plus rules (8 * h) (g.opposite x) x) ∙ ap (times g (8 * h)) (rules.left_opposite x)
      ∙ times-identity rules (8 * h)

-- ---- on the curve

abbrev pub P : Type 0
P = Point p d baby_jubjub_is_complete

abbrev pub G : Group P
G = points p d baby_jubjub_is_complete

pub laws : IsCommutativeGroup G
laws = points_laws p d baby_jubjub_is_complete

-- a point there
abbrev pub there : (q : Coordinates) → IsOnBabyJubjub q → P
there q on = record { at = scaled q; on = carried_on q on }

abbrev pub base : P
base = there base8 base8_on

times_at : (n : ℕ) (q : Coordinates) (on : IsOnBabyJubjub q) → scaled (times curve n q) ≡ (times G n (there q on)).at
times_at n q on = times_is n q ∙ sym (at-times p d baby_jubjub_is_complete n (there q on))

module _ (s h : ℕ) (key r8 : Coordinates) (on_key : IsOnBabyJubjub key) (on_r8 : IsOnBabyJubjub r8) where
  -- S Base8 - (8 h) A - R
  abbrev pub left_over : P
  left_over = G.plus (G.plus (times G s base) (times G h (times G 8 (G.opposite (there key on_key)))))
      (G.opposite (there r8 on_r8))

  right_at : scaled (curve.plus r8 (times curve (8 * h) key))
      ≡ (G.plus (there r8 on_r8) (times G (8 * h) (there key on_key))).at
  right_at = sum_is r8 (times curve (8 * h) key) ∙ ap (sum p d (scaled r8)) (times_at (8 * h) key on_key)

  pub is_zero : times curve s base8 ≡ curve.plus r8 (times curve (8 * h) key) → left_over.at ≡ neutral
  is_zero e =
      ap (λ (q : P). q.at) (balanced laws (times G s base) (times G (8 * h) (there key on_key))
      (times G h (times G 8 (G.opposite (there key on_key)))) (there r8 on_r8) (G.opposite (there r8 on_r8))
      (taken laws h (there key on_key)) (laws.left_opposite (there r8 on_r8))
      (same_point p d baby_jubjub_is_complete _ _ (sym (times_at s base8 base8_on) ∙ ap scaled e ∙ right_at)))

  pub of_zero : left_over.at ≡ neutral → times curve s base8 ≡ curve.plus r8 (times curve (8 * h) key)
  of_zero e =
      one_carried (times curve s base8) (curve.plus r8 (times curve (8 * h) key)) (times_on s base8 base8_on).x_below
      (sum_on r8 (times curve (8 * h) key) on_r8 (times_on (8 * h) key on_key)).x_below
      (times_at s base8 base8_on ∙ ap (λ (q : P). q.at) (balance laws (times G s base)
      (times G (8 * h) (there key on_key)) (times G h (times G 8 (G.opposite (there key on_key)))) (there r8 on_r8)
      (G.opposite (there r8 on_r8)) (taken laws h (there key on_key)) (laws.left_opposite (there r8 on_r8))
      (same_point p d baby_jubjub_is_complete left_over G.identity e)) ∙ sym right_at)

-- ---- what is signed is a signature

order_zero : times G order base ≡ G.identity
order_zero =
    same_point p d baby_jubjub_is_complete _ _ (at-times p d baby_jubjub_is_complete order base ∙ scaled_of_order)

some_order : 0 < order
unfolding order
some_order = lit< tt

pub signed_is_signature : (c : Parameters) (r k message : ℕ) (r8 : Coordinates) (s : ℕ)
    → IsSignedWith c r k message r8 s → IsEddsaSignature c (times curve k base8) message r8 s
signed_is_signature c r k message r8 s it =
    let key : Coordinates = times curve k base8 in
    let on_key : IsOnBabyJubjub key = times_on k base8 base8_on in
    let first : Coordinates = times curve r base8 in
    let on_first : IsOnBabyJubjub first = times_on r base8 base8_on in
    let h : ℕ = eddsa_challenge c r8 key message in
    let m : ℕ = 8 * h * k in
    record {
      key_on = on_key;
      r8_on = moved first r8 (sym it.point) on_first;
      scalar_below = bounded s (r + m) it.number;
      equation = ap (λ n. times curve n base8) it.number
          ∙ one_carried (times curve ((r + m) % order) base8) (curve.plus first (times curve (8 * h) key))
          (times_on ((r + m) % order) base8 base8_on).x_below
          (sum_on first (times curve (8 * h) key) on_first (times_on (8 * h) key on_key)).x_below
          (times_at ((r + m) % order) base8 base8_on
          ∙ ap (λ (q : P). q.at) (times-mod laws order (r + m) base order_zero ∙ times-add laws r m base
          ∙ ap (G.plus (times G r base)) (times-mul laws (8 * h) k base))
          ∙ ap₂ (sum p d) (sym (times_at r base8 base8_on)) (inner (8 * h) k)
          ∙ sym (sum_is first (times curve (8 * h) key)))
          ∙ ap (λ q. curve.plus q (times curve (8 * h) key)) (sym it.point);
    }
  where
    moved : (q r : Coordinates) → q ≡ r → IsOnBabyJubjub q → IsOnBabyJubjub r
    moved q r e on = subst IsOnBabyJubjub e on

    bounded : (s n : ℕ) → s ≡ n % order → s < order
    bounded s n e = subst (λ t. t < order) (sym e) (mod-lt n some_order)

    inner : (n k : ℕ) → (times G n (times G k base)).at ≡ scaled (times curve n (times curve k base8))
    inner n k =
        at-times p d baby_jubjub_is_complete n (times G k base)
        ∙ ap (times (edwards p d) n) (sym (times_at k base8 base8_on)) ∙ sym (times_is n (times curve k base8))

-- eight times the challenge by its steps
pub eightfold : (o h h' e1 e2 e3 : ℕ) → h' ≡ h % o → e1 ≡ 2 * h' % o → e2 ≡ 2 * e1 % o → e3 ≡ 2 * e2 % o
    → e3 % o ≡ 2 * (2 * (2 * h)) % o
eightfold o h h' e1 e2 e3 is_h is_1 is_2 is_3 =
    let one : e1 % o ≡ 2 * h % o = low o e1 (2 * h') is_1 ∙ products o 2 2 h' h refl (low o h' h is_h) in
    let two : e2 % o ≡ 2 * (2 * h) % o = low o e2 (2 * e1) is_2 ∙ products o 2 2 e1 (2 * h) refl one in
    low o e3 (2 * e2) is_3 ∙ products o 2 2 e2 (2 * (2 * h)) refl two

-- S by its steps
pub number_made : (o r h k e m s : ℕ) → e % o ≡ 2 * (2 * (2 * h)) % o → m ≡ e * k % o → s ≡ (r + m) % o
    → s ≡ (r + 8 * h * k) % o
number_made o r h k e m s eight is_m is_s =
    is_s
    ∙ sums o r r m (2 * (2 * (2 * h)) * k) refl (low o m (e * k) is_m
    ∙ products o e (2 * (2 * (2 * h))) k k eight refl) ∙ ap (λ n. n % o) (turn r h k)
  where
    turn : (r h k : ℕ) → r + 2 * (2 * (2 * h)) * k ≡ r + 8 * h * k
    turn r h k = omega arith
