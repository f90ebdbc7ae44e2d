-- One power tells whether a point is 8 times a point.
use Rattle.std.proofs.Common.{◌≡◌, ℕ, ◌+◌, ◌-◌, ◌*◌, ◌%◌, ◌^◌, ◌<◌, refl, sym, ◌∙◌, ap, subst, arith, mod-eq_of_lt}
use Rattle.std.proofs.lemmas.Nat.{mul-pow}
use Rattle.ark_groups.specs.Group.{Group, times}
use Rattle.ark_groups.proofs.Multiples.{times-mul}
use Rattle.number_facts.proofs.CongruenceLaws.{products}
use Rattle.number_facts.proofs.PowerLaws.{power_right, same_power}
use Rattle.edwards.specs.Edwards.{Coordinates, IsOnCurve, edwards}
use Rattle.edwards.specs.Curves.{IsComplete}
use Rattle.edwards.specs.Eighths.{HasEighths, IsTold, IsEightTimes, EighthPowersTell, tangent, second_factor}
use Rattle.edwards.specs.Eighths.{first_factor}
use Rattle.edwards.specs.Laws.ClassFacts.{two_steps, three_steps}
use Rattle.edwards.specs.Laws.ClassFacts.{first_quotient, second_root, second_quotient, third_quotient}
use Rattle.edwards.specs.Laws.Completeness.{has_inverses, complete}
use Rattle.edwards.specs.Laws.CurveLaws.{sum_closed}
use Rattle.edwards.specs.Laws.EighthPowers.{to_fourth, to_eighth, fourth_some, eighth_some, sign_of, eighth_power}
use Rattle.edwards.specs.Laws.EighthPowers.{told_alike}
use Rattle.edwards.specs.Laws.Halves.{IsDouble, half, root_of_quotient, some_first, some_second, some_alike}
use Rattle.edwards.specs.Laws.Points.{Point, points, points_laws, at-times}
use Rattle.edwards.specs.Laws.Quotients.{HasInverses, some_modulus, cancelled, product_some}
use Rattle.edwards.specs.Laws.Tangent.{two_some, four_some, some_product, some_sides}
use Rattle.edwards.specs.Laws.Tangent.{squares_are_zero, half_some_x, half_some_y, half_some_squares, half_some_both}
use Rattle.edwards.specs.Laws.Telling.{telling_is, multiplied, minus, double, above, below, both, squares, more}
use Rattle.edwards.specs.Laws.Telling.{product, sides, root, spread}
use Rattle.edwards.specs.Laws.Telling.{value_root, fourth, some_above, some_below, more_is_square, parts_make_square}
use Rattle.edwards.specs.Laws.Telling.{tangent_is, value_is_square, value_root_is, next_is}
use Rattle.edwards.specs.Laws.TurnedFacts.{two_parted}

module _ (p d : ℕ) (k : IsComplete p d) (h : HasEighths p d k.root) where
  abbrev i : ℕ
  i = k.root

  abbrev f : HasInverses p
  f = has_inverses p d k

  pos : 0 < p
  pos = some_modulus p f

  abbrev of : Coordinates → ℕ
  of a = multiplied p i h.slope a

  -- the constant, whose multiples by eighth powers are told
  abbrev class : ℕ
  class = 2 * h.spread * (2 * h.spread)

  some_twice : 2 * h.spread % p ≡ 0 → ⊥
  some_twice = product_some p f 2 h.spread (two_some p d k h) h.some_spread

  some_class : class % p ≡ 0 → ⊥
  some_class = product_some p f (2 * h.spread) (2 * h.spread) some_twice some_twice

  class_is : class ^ h.eighth % p ≡ h.class
  class_is = sym (power_right p 255 class h.eighth (fits h.eighth (p - 1) h.eighths k.generates.fits)) ∙ h.is_class
    where
      fits : (e n : ℕ) → e * 8 ≡ n → n < 2 ^ 255 → e < 2 ^ 255
      fits e n is l = omega (arith, is, l)

  some_turn : (1 + i) % p ≡ 0 → ⊥
  some_turn = some_first p (1 + i) (1 + i * i * i) (some_alike p ((1 + i) * (1 + i * i * i)) 2
      (two_parted p i pos (minus p d k h)) (two_some p d k h))

  -- ---- what is told, is 8 times a point

  -- a point is a double
  first_half : (a : Coordinates) → IsOnCurve p d a → (a.x % p ≡ 0 → ⊥) → (a.y % p ≡ 0 → ⊥) → (n : ℕ) → (n % p ≡ 0 → ⊥)
      → of a % p ≡ class * to_eighth n % p → IsDouble p d a
  first_half a on some_x some_y n some is =
      let r = root_of_quotient p f (more p d k h a) (2 * h.spread * to_fourth n) (h.spread * product p d k h a * t)
      (product_some p f (2 * h.spread) (to_fourth n) some_twice (fourth_some p d k h n some))
      (first_quotient p (more p d k h a) (second_factor p a) h.spread (product p d k h a) t (to_fourth n) pos
      (parts_make_square p d k h a on)
      (ap (λ n. n % p) (regroup (tangent i h.slope a * second_factor p a * first_factor i a) (first_factor i a *
      (1 + a.y)) (second_factor p a)) ∙ is)) in
      half p d k a on some_x some_y r.0 r.1
    where
      t : ℕ
      t = tangent i h.slope a * second_factor p a * first_factor i a
          * (tangent i h.slope a * second_factor p a * first_factor i a)
          * (first_factor i a * (1 + a.y))

      regroup : (n w b : ℕ) → n * n * w * (n * n * w) * b ≡ n * n * (n * n) * (w * w) * b
      regroup n w b = omega arith

  -- where the tangent at a double is not 0, its root is not
  module _ (b : Coordinates) (on : IsOnCurve p d b) (some_x : (double p d k h b).x % p ≡ 0 → ⊥)
      (some_y : (double p d k h b).y % p ≡ 0 → ⊥)
      (some_tangent : tangent i h.slope (double p d k h b) % p ≡ 0 → ⊥) where
    some_b_x : b.x % p ≡ 0 → ⊥
    some_b_x = half_some_x p d k h b on some_x some_y

    some_b_y : b.y % p ≡ 0 → ⊥
    some_b_y = half_some_y p d k h b on some_x some_y

    some_root : root p d k h b % p ≡ 0 → ⊥
    some_root = some_second p (root p d k h b) (root p d k h b)
        (some_second p (b.y * both p d k h b) (root p d k h b * root p d k h b)
        (some_alike p (b.y * both p d k h b * (root p d k h b * root p d k h b))
        (tangent i h.slope (double p d k h b) * (above p d k h b * below p d k h b) * sides p d k h b)
        (sym (tangent_is p d k h b on))
        (product_some p f (tangent i h.slope (double p d k h b) * (above p d k h b * below p d k h b)) (sides p d k h b)
        (product_some p f (tangent i h.slope (double p d k h b)) (above p d k h b * below p d k h b) some_tangent
        (product_some p f (above p d k h b) (below p d k h b) (some_above p d k h b on) (some_below p d k h b on)))
        (some_sides p d k h b on some_b_x some_b_y))))

    some_cross : product p d k h b % p ≡ 0 → ⊥
    some_cross = some_product p d k h b on some_b_x some_b_y

    some_both : both p d k h b % p ≡ 0 → ⊥
    some_both = half_some_both p d k h b on some_x some_y

    some_fourth : fourth p d k h b % p ≡ 0 → ⊥
    some_fourth =
        let s : ℕ = product p d k h b in
        let z : ℕ = both p d k h b in
        product_some p f (4 * h.spread * (s * s) * (z * z)) (root p d k h b)
        (product_some p f (4 * h.spread * (s * s)) (z * z)
        (product_some p f (4 * h.spread) (s * s) (product_some p f 4 h.spread (four_some p d k h) h.some_spread)
        (product_some p f s s some_cross some_cross))
        (product_some p f z z some_both some_both)) some_root

  -- what is told is not 0, and so the tangent
  tangent_some : (a : Coordinates) (n : ℕ) → (n % p ≡ 0 → ⊥) → of a % p ≡ class * to_eighth n % p
      → tangent i h.slope a % p ≡ 0 → ⊥
  tangent_some a n some is =
      let t : ℕ = tangent i h.slope a in
      let r : ℕ = second_factor p a in
      let m : ℕ = first_factor i a in
      some_first p t r (some_first p (t * r) m (some_first p (t * r * m) (t * r * m)
      (some_first p (t * r * m * (t * r * m)) (t * r * m * (t * r * m))
      (some_first p (t * r * m * (t * r * m) * (t * r * m * (t * r * m))) (m * (1 + a.y) * (m * (1 + a.y)))
      (some_first p (t * r * m * (t * r * m) * (t * r * m * (t * r * m)) * (m * (1 + a.y) * (m * (1 + a.y)))) r
      (some_alike p (of a) (class * to_eighth n) is
      (product_some p f class (to_eighth n) some_class (eighth_some p d k h n some))))))))

  spread_some : (b : Coordinates) → IsOnCurve p d b → spread p d k h b % p ≡ 0 → ⊥
  spread_some b on =
      let uv = product_some p f (above p d k h b) (below p d k h b) (some_above p d k h b on)
      (some_below p d k h b on) in
      product_some p f (above p d k h b * below p d k h b) (above p d k h b * below p d k h b) uv uv

  -- what is left at its half b
  module _ (b : Coordinates) (on : IsOnCurve p d b) (some_x : (double p d k h b).x % p ≡ 0 → ⊥)
      (some_y : (double p d k h b).y % p ≡ 0 → ⊥) (n : ℕ) (some : n % p ≡ 0 → ⊥)
      (is : of (double p d k h b) % p ≡ class * to_eighth n % p) where
    signed : (t : ℕ) × (t % p ≡ 0 → ⊥)
        × (value_root p d k h b % p ≡ to_fourth t * (2 * h.spread * below p d k h b * to_fourth n) % p)
    signed = sign_of p d k h (value_root p d k h b) (2 * h.spread * below p d k h b * to_fourth n)
        (second_root p (of (double p d k h b)) (below p d k h b) (value_root p d k h b) h.spread (to_fourth n) pos
        (value_is_square p d k h b on) is)

    abbrev factor : ℕ
    factor = signed.0 * n * spread p d k h b

    some_factor : factor % p ≡ 0 → ⊥
    some_factor = product_some p f (signed.0 * n) (spread p d k h b) (product_some p f signed.0 n signed.1 some)
        (spread_some b on)

    left : to_fourth factor * (sides p d k h b * sides p d k h b) % p
        ≡ to_fourth (fourth p d k h b) * (b.y * b.y * more p d k h b) % p
    left = ap (λ n. n % p) (regroup signed.0 n (spread p d k h b) (sides p d k h b))
        ∙ cancelled p f (to_fourth signed.0 * to_fourth n * to_fourth (spread p d k h b) *
        (sides p d k h b * sides p d k h b))
        (to_fourth (fourth p d k h b) * (b.y * b.y * more p d k h b)) (2 * h.spread * below p d k h b)
        (product_some p f (2 * h.spread) (below p d k h b) some_twice (some_below p d k h b on))
        (second_quotient p (value_root p d k h b) (to_fourth signed.0) h.spread (below p d k h b) (to_fourth n)
        (to_fourth (spread p d k h b)) (sides p d k h b) (to_fourth (fourth p d k h b)) (b.y * b.y * more p d k h b) pos
        signed.2 (value_root_is p d k h b on))
      where
        regroup : (t n s e : ℕ) → t * n * s * (t * n * s) * (t * n * s * (t * n * s)) * (e * e)
            ≡ t * t * (t * t) * (n * n * (n * n)) * (s * s * (s * s)) * (e * e)
        regroup t n s e = omega arith

    second_half : IsDouble p d b
    second_half =
        let some_q = some_fourth b on some_x some_y (tangent_some (double p d k h b) n some is) in
        let r = root_of_quotient p f (more p d k h b) (fourth p d k h b * fourth p d k h b * b.y)
        (factor * factor * sides p d k h b)
        (product_some p f (fourth p d k h b * fourth p d k h b) b.y
        (product_some p f (fourth p d k h b) (fourth p d k h b) some_q some_q) (half_some_y p d k h b on some_x some_y))
        (ap (λ n. n % p) (turn (fourth p d k h b) b.y (more p d k h b)) ∙ sym left
        ∙ ap (λ n. n % p) (regroup factor (sides p d k h b))) in
        half p d k b on (half_some_x p d k h b on some_x some_y) (half_some_y p d k h b on some_x some_y) r.0 r.1
      where
        turn : (q y c : ℕ) → c * (q * q * y * (q * q * y)) ≡ q * q * (q * q) * (y * y * c)
        turn q y c = omega arith

        regroup : (x e : ℕ) → x * x * (x * x) * (e * e) ≡ x * x * e * (x * x * e)
        regroup x e = omega arith

  -- both steps together: where c is doubled twice, the class is told by 1 + x^2 at c
  on_double : (c : Coordinates) → IsOnCurve p d c → IsOnCurve p d (double p d k h c)
  on_double c on = sum_closed p d f (complete p d k) c c on on

  module _ (c : Coordinates) (on : IsOnCurve p d c) (some_x : (double p d k h (double p d k h c)).x % p ≡ 0 → ⊥)
      (some_y : (double p d k h (double p d k h c)).y % p ≡ 0 → ⊥) where
    abbrev b : Coordinates
    b = double p d k h c

    on_b : IsOnCurve p d b
    on_b = on_double c on

    some_x' : b.x % p ≡ 0 → ⊥
    some_x' = half_some_x p d k h b on_b some_x some_y

    some_y' : b.y % p ≡ 0 → ⊥
    some_y' = half_some_y p d k h b on_b some_x some_y

    some_c_x : c.x % p ≡ 0 → ⊥
    some_c_x = half_some_x p d k h c on some_x' some_y'

    some_c_y : c.y % p ≡ 0 → ⊥
    some_c_y = half_some_y p d k h c on some_x' some_y'

    -- from an equation at b to one at c
    left_at : (a r : ℕ) → a * (sides p d k h b * sides p d k h b) % p ≡ r * (b.y * b.y * more p d k h b) % p
        → a * (2 * more p d k h c * (2 * more p d k h c)) % p ≡ r * to_fourth (both p d k h c) % p
    left_at a r e =
        let s : ℕ = sides p d k h b in
        let some_s = some_sides p d k h b on_b some_x' some_y' in
        cancelled p f (a * (2 * more p d k h c * (2 * more p d k h c))) (r * to_fourth (both p d k h c)) (s * s)
        (product_some p f s s some_s some_s)
        (two_steps p a s r (b.y * b.y * more p d k h b) (more p d k h c) (both p d k h c) pos e (next_is p d k h c on))

    abbrev whole : ℕ
    whole = fourth p d k h b * both p d k h c

    module _ (n : ℕ) (some : n % p ≡ 0 → ⊥) (is : of (double p d k h b) % p ≡ class * to_eighth n % p) where
      abbrev x : ℕ
      x = factor b on_b some_x some_y n some is

      squares_alike : x * x * (2 * more p d k h c) * (x * x * (2 * more p d k h c)) % p
          ≡ whole * whole * (whole * whole) % p
      squares_alike = ap (λ n. n % p) (turn x (2 * more p d k h c))
          ∙ left_at (to_fourth x) (to_fourth (fourth p d k h b)) (left b on_b some_x some_y n some is)
          ∙ ap (λ n. n % p) (regroup (fourth p d k h b) (both p d k h c))
        where
          turn : (x c : ℕ) → x * x * c * (x * x * c) ≡ x * x * (x * x) * (c * c)
          turn x c = omega arith

          regroup : (q z : ℕ) → q * q * (q * q) * (z * z * (z * z)) ≡ q * z * (q * z) * (q * z * (q * z))
          regroup q z = omega arith

      signed_next : (t : ℕ) × (t % p ≡ 0 → ⊥)
          × (x * x * (2 * more p d k h c) % p ≡ to_fourth t * (whole * whole) % p)
      signed_next = sign_of p d k h (x * x * (2 * more p d k h c)) (whole * whole) squares_alike

      third_half : IsDouble p d c
      third_half =
          let t : ℕ = signed_next.0 in
          let r = root_of_quotient p f (more p d k h c) ((1 + i) * x) (h.root * (t * t) * whole)
          (product_some p f (1 + i) x some_turn (some_factor b on_b some_x some_y n some is))
          (third_quotient p x (more p d k h c) (t * t) whole h.root i pos signed_next.2 h.is_root (minus p d k h)) in
          half p d k c on some_c_x some_c_y r.0 r.1

  -- ---- 8 times a point is told

  module _ (w : Coordinates) (on : IsOnCurve p d w)
      (some_x : (double p d k h (double p d k h (double p d k h w))).x % p ≡ 0 → ⊥)
      (some_y : (double p d k h (double p d k h (double p d k h w))).y % p ≡ 0 → ⊥)
      (some_tangent : tangent i h.slope (double p d k h (double p d k h (double p d k h w))) % p ≡ 0 → ⊥) where
    abbrev c : Coordinates
    c = double p d k h w

    abbrev q : Coordinates
    q = double p d k h c

    on_c : IsOnCurve p d c
    on_c = on_double w on

    on_q : IsOnCurve p d q
    on_q = on_double c on_c

    some_q_x : q.x % p ≡ 0 → ⊥
    some_q_x = half_some_x p d k h q on_q some_x some_y

    some_q_y : q.y % p ≡ 0 → ⊥
    some_q_y = half_some_y p d k h q on_q some_x some_y

    some_c_x' : c.x % p ≡ 0 → ⊥
    some_c_x' = half_some_x p d k h c on_c some_q_x some_q_y

    some_c_y' : c.y % p ≡ 0 → ⊥
    some_c_y' = half_some_y p d k h c on_c some_q_x some_q_y

    abbrev top : ℕ
    top = (1 + i) * (spread p d k h q * squares p d k h w)

    abbrev bottom : ℕ
    bottom = fourth p d k h q * both p d k h c * above p d k h w

    some_top : top % p ≡ 0 → ⊥
    some_top = product_some p f (1 + i) (spread p d k h q * squares p d k h w) some_turn
        (product_some p f (spread p d k h q) (squares p d k h w) (spread_some q on_q)
        (half_some_squares p d k h w on some_c_x' some_c_y'))

    some_bottom : bottom % p ≡ 0 → ⊥
    some_bottom = product_some p f (fourth p d k h q * both p d k h c) (above p d k h w)
        (product_some p f (fourth p d k h q) (both p d k h c) (some_fourth q on_q some_x some_y some_tangent)
        (half_some_both p d k h c on_c some_q_x some_q_y)) (some_above p d k h w on)

    eighth_is : of (double p d k h q) * to_eighth top % p ≡ class * to_eighth bottom % p
    eighth_is =
        cancelled p f (of (double p d k h q) * to_eighth top) (class * to_eighth bottom)
        (below p d k h q * below p d k h q)
        (product_some p f (below p d k h q) (below p d k h q) (some_below p d k h q on_q) (some_below p d k h q on_q))
        (three_steps p (of (double p d k h q)) (below p d k h q) (value_root p d k h q) (spread p d k h q)
        (more p d k h c)
        (squares p d k h w) h.spread (fourth p d k h q * both p d k h c) (above p d k h w) i pos
        (value_is_square p d k h q on_q)
        (left_at c on_c some_x some_y (value_root p d k h q * to_fourth (spread p d k h q))
        (2 * h.spread * below p d k h q * to_fourth (fourth p d k h q)) (value_root_is p d k h q on_q)
        ∙ ap (λ n. n % p) (regroup (2 * h.spread * below p d k h q) (fourth p d k h q) (both p d k h c)))
        (more_is_square p d k h w on) (minus p d k h))
      where
        regroup : (v q z : ℕ) → v * (q * q * (q * q)) * (z * z * (z * z)) ≡ v * (q * z * (q * z) * (q * z * (q * z)))
        regroup v q z = omega arith

    power_is : of (double p d k h q) ^ h.eighth % p ≡ h.class
    power_is = sym (alone (of (double p d k h q)) top some_top)
        ∙ same_power p (of (double p d k h q) * to_eighth top) (class * to_eighth bottom) h.eighth eighth_is
        ∙ alone class bottom some_bottom ∙ class_is
      where
        alone : (v n : ℕ) → (n % p ≡ 0 → ⊥) → (v * to_eighth n) ^ h.eighth % p ≡ v ^ h.eighth % p
        alone v n some = ap (λ t. t % p) (mul-pow v (to_eighth n) h.eighth)
            ∙ products p (v ^ h.eighth) (v ^ h.eighth) (to_eighth n ^ h.eighth) 1 refl
            (eighth_power p d k h n some ∙ sym (mod-eq_of_lt f.two)) ∙ ap (λ t. t % p) (once (v ^ h.eighth))
          where
            once : (n : ℕ) → n * 1 ≡ n
            once n = omega arith

  -- ---- together

  -- 8 times is to double three times
  eight : (w : Coordinates) → IsOnCurve p d w
      → times (edwards p d) 8 w ≡ double p d k h (double p d k h (double p d k h w))
  eight w on =
      let s : Point p d k = record { at = w; on = on } in
      let g : Group (Point p d k) = points p d k in
      sym (at-times p d k 8 s) ∙ ap (λ (a : Point p d k). a.at)
      (times-mul (points_laws p d k) 2 4 s ∙ twice (times g 4 s)
      ∙ ap (λ a. g.plus a a) (times-mul (points_laws p d k) 2 2 s ∙ twice (times g 2 s) ∙ ap (λ a. g.plus a a)
      (twice s)))
    where
      twice : (a : Point p d k) → times (points p d k) 2 a ≡ (points p d k).plus a a
      twice a = ap (λ b. (points p d k).plus b a) ((points_laws p d k).left_identity a)

  told_is_eight_times : (a : Coordinates) → IsOnCurve p d a → (a.x % p ≡ 0 → ⊥) → (a.y % p ≡ 0 → ⊥)
      → IsTold p d k.root h a → IsEightTimes p d a
  told_is_eight_times a on some_x some_y told =
      let e = told_alike p d k h (of a) class some_class
      (ap (λ n. n ^ h.eighth % p) (telling_is p i h.slope a) ∙ told ∙ sym class_is) in
      let s = first_half a on some_x some_y e.0 e.1 e.2 in
      subst (IsEightTimes p d) s.2 (at_half s.0 s.1 (subst SomeX (sym s.2) some_x) (subst SomeY
      (sym s.2) some_y) e.0 e.1
      (subst (λ a. of a % p ≡ class * to_eighth e.0 % p) (sym s.2) e.2))
    where
      SomeX : Coordinates → Type 0
      SomeX a = a.x % p ≡ 0 → ⊥

      SomeY : Coordinates → Type 0
      SomeY a = a.y % p ≡ 0 → ⊥

      at_quarter : (c : Coordinates) → IsOnCurve p d c → SomeX (double p d k h (double p d k h c))
          → SomeY (double p d k h (double p d k h c)) → (n : ℕ) → (n % p ≡ 0 → ⊥)
          → of (double p d k h (double p d k h c)) % p ≡ class * to_eighth n % p
          → IsEightTimes p d (double p d k h (double p d k h c))
      at_quarter c on some_x some_y n some is =
          let s = third_half c on some_x some_y n some is in
          (s.0, s.1, eight s.0 s.1 ∙ ap (λ c. double p d k h (double p d k h c)) s.2)

      at_half : (b : Coordinates) → IsOnCurve p d b → SomeX (double p d k h b) → SomeY (double p d k h b) → (n : ℕ)
          → (n % p ≡ 0 → ⊥) → of (double p d k h b) % p ≡ class * to_eighth n % p → IsEightTimes p d (double p d k h b)
      at_half b on some_x some_y n some is =
          let s = second_half b on some_x some_y n some is in
          let e = ap (double p d k h) s.2 in
          subst (IsEightTimes p d) e (at_quarter s.0 s.1 (subst SomeX (sym e) some_x) (subst SomeY
          (sym e) some_y) n some
          (subst (λ a. of a % p ≡ class * to_eighth n % p) (sym e) is))

  eight_times_is_told : (a : Coordinates) → IsOnCurve p d a → (a.x % p ≡ 0 → ⊥) → (a.y % p ≡ 0 → ⊥)
      → ((a.y * a.y + a.x * a.x) % p ≡ 0 → ⊥) → IsEightTimes p d a → IsTold p d k.root h a
  eight_times_is_told a on some_x some_y some_squares s =
      let e = sym (eight s.0 s.1) ∙ s.2 in
      ap (λ n. n ^ h.eighth % p) (sym (telling_is p i h.slope a))
      ∙ subst (λ a. of a ^ h.eighth % p ≡ h.class) e
      (power_is s.0 s.1 (subst (λ (a : Coordinates). a.x % p ≡ 0 → ⊥) (sym e) some_x)
      (subst (λ (a : Coordinates). a.y % p ≡ 0 → ⊥) (sym e) some_y)
      (subst (λ a. tangent i h.slope a % p ≡ 0 → ⊥) (sym e)
      (λ z. some_squares (squares_are_zero p d k h a on some_x some_y z))))

pub eighth_powers_tell : EighthPowersTell
eighth_powers_tell p d k h a on some_x some_y =
    (told_is_eight_times p d k h a on some_x some_y, eight_times_is_told p d k h a on some_x some_y)
