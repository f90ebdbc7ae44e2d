-- Sums of weights: Lagrange's interpolation at 0.
use Rattle.std.proofs.Common.{◌≡◌, ℕ, zero, suc, ◌+◌, ◌-◌, ◌*◌, ◌/◌, ◌%◌, ◌^◌, ◌<◌, ◌≤◌, ◌==◌, List, [], ◌∷◌}
use Rattle.std.proofs.Common.{refl, sym, ◌∙◌, ap, arith, mod-eq_of_lt, div-add-mod', inl, inr, cond, false}
use Rattle.std.proofs.Math.Nat.{mod-mod, add-mul-mod_self_right}
use Rattle.std.proofs.lemmas.Bool.{eq-eqb}
use Rattle.std.proofs.lemmas.Bool.Decides.{eqb_tells}
use Rattle.std.proofs.lemmas.Nat.{mul-mod_first, mul-mod_second}
use Rattle.number_facts.proofs.CongruenceLaws.{sums, multiples, products, without}
use Rattle.ark_signatures.specs.SecretShares.{ratio, lagrange_weight}

-- the sum of a function over a list
abbrev pub sum_over : (ℕ → ℕ) → List ℕ → ℕ
sum_over f [] = 0
sum_over f (x ∷ xs) = f x + sum_over f xs

-- a is none of them
abbrev pub Apart : ℕ → List ℕ → Type 0
Apart a [] = Unit {0}
Apart a (x ∷ xs) = (a ≡ x → ⊥) × Apart a xs

-- no two are the same
abbrev pub AreApart : List ℕ → Type 0
AreApart [] = Unit {0}
AreApart (x ∷ xs) = Apart x xs × AreApart xs

-- each is below m
abbrev pub AllBelow : ℕ → List ℕ → Type 0
AllBelow m [] = Unit {0}
AllBelow m (x ∷ xs) = (x < m) × AllBelow m xs

-- places below m that are not 0 and differ
pub record FitPlaces (m : ℕ) (xs : List ℕ) : Type 0 where
  pub below : AllBelow m xs
  pub some : Apart 0 xs
  pub apart : AreApart xs

-- one of two places: its ratio to the other one, its weight by the places behind both, and the sum of theirs with it
record Part : Type 0 where
  place : ℕ
  factor : ℕ
  weight : ℕ
  rest : ℕ

is_other : (z x : ℕ) → (z ≡ x → ⊥) → (z == x) ≡ false
is_other z x other = elim (eqb_tells z x) [ inl is ↦ absurd (other is.1) | inr is ↦ is.0 ]

module _ (m : ℕ) where
  -- the product skips the place itself
  pub weight_at : (z x : ℕ) (zs : List ℕ) → z ≡ x → lagrange_weight m (z ∷ zs) x ≡ lagrange_weight m zs x
  weight_at z x zs same =
      ap (λ b. cond b (lagrange_weight m zs x) (ratio m z x * lagrange_weight m zs x % m)) (eq-eqb z x same)

  pub weight_same : (x : ℕ) (zs : List ℕ) → lagrange_weight m (x ∷ zs) x ≡ lagrange_weight m zs x
  weight_same x zs = weight_at x x zs refl

  -- and takes each other place
  pub weight_other : (z x : ℕ) (zs : List ℕ) → (z ≡ x → ⊥)
      → lagrange_weight m (z ∷ zs) x ≡ ratio m z x * lagrange_weight m zs x % m
  weight_other z x zs other =
      ap (λ b. cond b (lagrange_weight m zs x) (ratio m z x * lagrange_weight m zs x % m)) (is_other z x other)

  -- a difference is not 0 modulo m
  pub some_difference : (z x : ℕ) → z < m → x < m → (z ≡ x → ⊥) → (z + (m - x)) % m ≡ 0 → ⊥
  some_difference z x zl xl other none =
      at ((z + (m - x)) / m) (sym (div-add-mod' (z + (m - x)) m) ∙ ap (λ t. (z + (m - x)) / m * m + t) none)
    where
      at : (q : ℕ) → z + (m - x) ≡ q * m + 0 → ⊥
      at zero e = omega (arith, e, xl)
      at (suc zero) e = other (omega (arith, e, xl))
      at (suc (suc q)) e = over (q * m) (e ∙ spread q m)
        where
          over : (k : ℕ) → z + (m - x) ≡ m + m + k → ⊥
          over k e = omega (arith, e, zl)

          spread : (q m : ℕ) → suc (suc q) * m + 0 ≡ m + m + q * m
          spread q m = omega arith

  module _ (two : 2 ≤ m) (invert : (y : ℕ) → (y % m ≡ 0 → ⊥) → y * (y ^ (m - 2) % m) % m ≡ 1) where
    positive : 0 < m
    positive = omega (arith, two)

    one_is : 1 % m ≡ 1
    one_is = mod-eq_of_lt two

    -- z / (z - x), times z - x
    pub ratio_back : (z x : ℕ) → z < m → x < m → (z ≡ x → ⊥) → ratio m z x * (z + (m - x)) % m ≡ z % m
    unfolding ratio
    ratio_back z x zl xl other =
        let d = z + (m - x) in
        mul-mod_first (z * d ^ (m - 2)) d m ∙ ap (λ t. t % m) (regroup z (d ^ (m - 2)) d)
        ∙ sym (mul-mod_second z (d * d ^ (m - 2)) m)
        ∙ ap (λ t. z * t % m) (sym (mul-mod_second d (d ^ (m - 2)) m) ∙ invert d (some_difference z x zl xl other))
        ∙ ap (λ t. t % m) (times_one z)
      where
        regroup : (z p d : ℕ) → z * p * d ≡ z * (d * p)
        regroup z p d = omega arith

        times_one : (z : ℕ) → z * 1 ≡ z
        times_one z = omega arith

    -- the same without a difference
    pub ratio_is : (z x : ℕ) → z < m → x < m → (z ≡ x → ⊥) → ratio m z x * z % m ≡ (z + ratio m z x * x) % m
    ratio_is z x zl xl other =
        let r = ratio m z x in
        without m (r * z) (z + r * x) (z + r * m) (r * (z + (m - x))) positive (split r z x m (m - x) (whole xl))
        (add-mul-mod_self_right z r m ∙ sym (ratio_back z x zl xl other))
      where
        whole : x < m → m ≡ m - x + x
        whole l = omega (arith, l)

        split : (r z x m c : ℕ) → m ≡ c + x → r * z + (z + r * m) ≡ z + r * x + r * (z + c)
        split r z x m c e = ap (λ t. r * z + (z + r * t)) e ∙ spread r z x c
          where
            spread : (r z x c : ℕ) → r * z + (z + r * (c + x)) ≡ z + r * x + r * (z + c)
            spread r z x c = omega arith

    -- a number that b - a turns into itself is 1
    pub divided_is_one : (a b s : ℕ) → a < m → b < m → (b ≡ a → ⊥) → (b * s + a) % m ≡ (a * s + b) % m
        → s % m ≡ 1 % m
    divided_is_one a b s al bl other e =
        let d = b + (m - a) in
        let i = d ^ (m - 2) % m in
        let one : d * i % m ≡ 1 % m = invert d (some_difference b a bl al other) ∙ sym one_is in
        let same : d * s % m ≡ d % m =
        without m (d * s) d (a * s + b + 1 * m) (b * s + a + s * m) positive (spread a b s (m - a) m (whole al))
        (add-mul-mod_self_right (a * s + b) 1 m ∙ sym e ∙ sym (add-mul-mod_self_right (b * s + a) s m)) in
        ap (λ t. t % m) (times_one s) ∙ products m s s 1 (d * i) refl (sym one) ∙ ap (λ t. t % m) (turn s d i)
        ∙ products m (d * s) d i i same refl ∙ one
      where
        whole : a < m → m ≡ m - a + a
        whole l = omega (arith, l)

        times_one : (s : ℕ) → s ≡ s * 1
        times_one s = omega arith

        turn : (s d i : ℕ) → s * (d * i) ≡ d * s * i
        turn s d i = omega arith

        spread : (a b s c m : ℕ) → m ≡ c + a
            → (b + c) * s + (a * s + b + 1 * m) ≡ b + c + (b * s + a + s * m)
        spread a b s c m e = ap (λ t. (b + c) * s + (a * s + b + 1 * t)) e ∙ both a b s c
            ∙ ap (λ t. b + c + (b * s + a + s * t)) (sym e)
          where
            both : (a b s c : ℕ)
                → (b + c) * s + (a * s + b + 1 * (c + a)) ≡ b + c + (b * s + a + s * (c + a))
            both a b s c = omega arith

    -- ---- the weights are 1 together

    -- one place's part of two sums with a and b
    pair_step : (f g u a b x : ℕ) → f * a % m ≡ (a + f * x) % m → g * b % m ≡ (b + g * x) % m
        → (b * (f * (g * u)) + a * (g * u)) % m ≡ (a * (f * (g * u)) + b * (f * u)) % m
    pair_step f g u a b x is_f is_g =
        without m _ _ ((b + g * x) * (f * u) + f * a * (g * u)) (g * b * (f * u) + (a + f * x) * (g * u)) positive
        (spread f g u a b x)
        (sums m ((b + g * x) * (f * u)) (g * b * (f * u)) (f * a * (g * u)) ((a + f * x) * (g * u))
        (multiples m (b + g * x) (g * b) (f * u) (sym is_g)) (multiples m (f * a) (a + f * x) (g * u) is_f))
      where
        spread : (f g u a b x : ℕ)
            → b * (f * (g * u)) + a * (g * u) + ((b + g * x) * (f * u) + f * a * (g * u))
            ≡ a * (f * (g * u)) + b * (f * u) + (g * b * (f * u) + (a + f * x) * (g * u))
        spread f g u a b x = omega arith

    pair_sums : (u : ℕ → ℕ) (a b : ℕ) (xs : List ℕ) → a < m → b < m → AllBelow m xs → Apart a xs → Apart b xs
        → (b * sum_over (λ x. ratio m a x * (ratio m b x * u x)) xs + a * sum_over (λ x. ratio m b x * u x) xs) % m
        ≡ (a * sum_over (λ x. ratio m a x * (ratio m b x * u x)) xs + b * sum_over (λ x. ratio m a x * u x) xs) % m
    pair_sums u a b [] al bl below first second = ap (λ t. t % m) (none a b)
      where
        none : (a b : ℕ) → b * 0 + a * 0 ≡ a * 0 + b * 0
        none a b = omega arith
    pair_sums u a b (x ∷ xs) al bl below first second =
        let f = ratio m a x in
        let g = ratio m b x in
        ap (λ t. t % m) (apart b a _ _ _ _)
        ∙ sums m _ _ _ _
        (pair_step f g (u x) a b x (ratio_is a x al below.0 first.0) (ratio_is b x bl below.0 second.0))
        (pair_sums u a b xs al bl below.1 first.1 second.1)
        ∙ ap (λ t. t % m) (sym (apart a b _ _ _ _))
      where
        apart : (b a p s q t : ℕ) → b * (p + s) + a * (q + t) ≡ b * p + a * q + (b * s + a * t)
        apart b a p s q t = omega arith

    -- the factor of a place that is none of them, taken out of each lagrange_weight
    pub factor_out : (c : ℕ → ℕ) (a : ℕ) (zs xs : List ℕ) → Apart a xs
        → sum_over (λ x. c x * lagrange_weight m (a ∷ zs) x) xs % m
        ≡ sum_over (λ x. c x * (ratio m a x * lagrange_weight m zs x)) xs % m
    factor_out c a zs [] apart = refl
    factor_out c a zs (x ∷ xs) apart =
        sums m _ _ _ _
        (ap (λ t. c x * t % m) (weight_other a x zs apart.0)
        ∙ mul-mod_second (c x) (ratio m a x * lagrange_weight m zs x) m)
        (factor_out c a zs xs apart.1)

    one_factor : (a : ℕ) (zs xs : List ℕ) → Apart a xs
        → sum_over (lagrange_weight m (a ∷ zs)) xs % m ≡ sum_over (λ x. ratio m a x * lagrange_weight m zs x) xs % m
    one_factor a zs [] apart = refl
    one_factor a zs (x ∷ xs) apart =
        sums m _ _ _ _
        (ap (λ t. t % m) (weight_other a x zs apart.0) ∙ mod-mod (ratio m a x * lagrange_weight m zs x) m)
        (one_factor a zs xs apart.1)

    two_factors : (a b : ℕ) (zs xs : List ℕ) → Apart a xs → Apart b xs
        → sum_over (lagrange_weight m (a ∷ b ∷ zs)) xs % m
        ≡ sum_over (λ x. ratio m a x * (ratio m b x * lagrange_weight m zs x)) xs % m
    two_factors a b zs [] first second = refl
    two_factors a b zs (x ∷ xs) first second =
        sums m _ _ _ _
        (ap (λ t. t % m) (weight_other a x (b ∷ zs) first.0
        ∙ ap (λ t. ratio m a x * t % m) (weight_other b x zs second.0))
        ∙ mod-mod (ratio m a x * (ratio m b x * lagrange_weight m zs x % m)) m
        ∙ mul-mod_second (ratio m a x) (ratio m b x * lagrange_weight m zs x) m)
        (two_factors a b zs xs first.1 second.1)

    -- two sums of weights that are 1, and what they give for both places
    joined : (p q : Part) (both : ℕ) → p.factor * q.place % m ≡ (q.place + p.factor * p.place) % m
        → q.factor * p.place % m ≡ (p.place + q.factor * q.place) % m
        → (q.place * both + p.place * q.rest) % m ≡ (p.place * both + q.place * p.rest) % m
        → (p.weight + p.rest) % m ≡ 1 % m → (q.weight + q.rest) % m ≡ 1 % m
        → (q.place * (p.factor * p.weight + (q.factor * q.weight + both)) + p.place) % m
        ≡ (p.place * (p.factor * p.weight + (q.factor * q.weight + both)) + q.place) % m
    joined p q Uab is_g is_h pair first second =
        let a = p.place in
        let g = p.factor in
        let A = p.weight in
        let Ua = p.rest in
        let b = q.place in
        let h = q.factor in
        let B = q.weight in
        let Ub = q.rest in
        without m _ _
        ((b + g * a) * A + (h * a * B + (a * Uab + b * Ua + (1 * b + (B + Ub) * a))))
        (g * b * A + ((a + h * b) * B + (b * Uab + a * Ub + ((A + Ua) * b + 1 * a))))
        positive (spread a b g h A B Ua Ub Uab)
        (sums m _ _ _ _ (multiples m (b + g * a) (g * b) A (sym is_g))
        (sums m _ _ _ _ (multiples m (h * a) (a + h * b) B is_h)
        (sums m _ _ _ _ (sym pair)
        (sums m _ _ _ _ (multiples m 1 (A + Ua) b (sym first)) (multiples m (B + Ub) 1 a second)))))
      where
        spread : (a b g h A B Ua Ub Uab : ℕ)
            → b * (g * A + (h * B + Uab)) + a
            + ((b + g * a) * A + (h * a * B + (a * Uab + b * Ua + (1 * b + (B + Ub) * a))))
            ≡ a * (g * A + (h * B + Uab)) + b
            + (g * b * A + ((a + h * b) * B + (b * Uab + a * Ub + ((A + Ua) * b + 1 * a))))
        spread a b g h A B Ua Ub Uab = omega arith

    -- the weights of all places are 1 together
    pub weights_are_one : (a : ℕ) (xs : List ℕ) → a < m → AllBelow m xs → Apart a xs → AreApart xs
        → sum_over (lagrange_weight m (a ∷ xs)) (a ∷ xs) % m ≡ 1 % m
    weights_are_one a [] al below first rest = ap (λ t. (t + 0) % m) (weight_same a [])
    weights_are_one a (b ∷ xs) al below first rest =
        let g = ratio m b a in
        let h = ratio m a b in
        let A = lagrange_weight m xs a in
        let B = lagrange_weight m xs b in
        let Ua = sum_over (λ x. ratio m a x * lagrange_weight m xs x) xs in
        let Ub = sum_over (λ x. ratio m b x * lagrange_weight m xs x) xs in
        let Uab = sum_over (λ x. ratio m a x * (ratio m b x * lagrange_weight m xs x)) xs in
        let first_sum : (A + Ua) % m ≡ 1 % m =
        sums m _ _ _ _ (ap (λ t. t % m) (sym (weight_same a xs))) (sym (one_factor a xs xs first.1))
        ∙ weights_are_one a xs al below.1 first.1 rest.1 in
        let second_sum : (B + Ub) % m ≡ 1 % m =
        sums m _ _ _ _ (ap (λ t. t % m) (sym (weight_same b xs))) (sym (one_factor b xs xs rest.0))
        ∙ weights_are_one b xs below.0 below.1 rest.0 rest.1 in
        let at_a : lagrange_weight m (a ∷ b ∷ xs) a % m ≡ g * A % m =
        ap (λ t. t % m) (weight_same a (b ∷ xs) ∙ weight_other b a xs (λ e. first.0 (sym e))) ∙ mod-mod (g * A) m in
        let at_b : lagrange_weight m (a ∷ b ∷ xs) b % m ≡ h * B % m =
        ap (λ t. t % m) (weight_other a b (b ∷ xs) first.0 ∙ ap (λ t. h * t % m) (weight_same b xs))
        ∙ mod-mod (h * B) m in
        sums m _ _ _ _ at_a (sums m _ _ _ _ at_b (two_factors a b xs xs first.1 rest.0))
        ∙ divided_is_one a b (g * A + (h * B + Uab)) al below.0 (λ e. first.0 (sym e))
        (joined (record { place = a; factor = g; weight = A; rest = Ua }) (record {
          place = b;
          factor = h;
          weight = B;
          rest = Ub;
        }) Uab (ratio_is b a below.0 al (λ e. first.0 (sym e)))
        (ratio_is a b al below.0 first.0)
        (pair_sums (lagrange_weight m xs) a b xs al below.0 below.1 first.1 rest.0) first_sum
        second_sum)
