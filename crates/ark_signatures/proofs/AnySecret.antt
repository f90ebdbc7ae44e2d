-- A polynomial through any shares with any secret, and that there is one alone.
use Rattle.std.proofs.Common.{◌≡◌, ℕ, zero, suc, ◌+◌, ◌-◌, ◌*◌, ◌%◌, ◌^◌, ◌<◌, ◌≤◌, List, [], ◌∷◌, length}
use Rattle.std.proofs.Common.{refl, sym, ◌∙◌, ap, ap₂, subst, arith, mod-eq_of_lt}
use Rattle.std.proofs.Math.Nat.{mod-mod, mod-lt, mul-mod_left, add-mul-mod_self_right}
use Rattle.std.proofs.lemmas.List.{length-map}
use Rattle.std.proofs.lemmas.Nat.{mul-mod_first, mul-mod_second}
use Rattle.number_facts.proofs.CongruenceLaws.{sums, multiples, products, without}
use Rattle.ark_signatures.specs.SecretShares.{polynomial_value, lagrange_weight, AreSharesOf, places_of}
use Rattle.ark_signatures.proofs.Interpolation.{Apart, AreApart, AllBelow, FitPlaces, sum_over, some_difference}
use Rattle.ark_signatures.proofs.Recovering.{value_below, weighted_values}

-- (v - y) / (x - a)
abbrev pub slope : ℕ → ℕ → ℕ → ℕ × ℕ → ℕ
slope m a y share = (share.1 + (m - y)) * (share.0 + (m - a)) ^ (m - 2) % m

-- the slopes at each place
abbrev pub slopes : ℕ → ℕ → ℕ → List (ℕ × ℕ) → List (ℕ × ℕ)
slopes m a y [] = []
slopes m a y (share ∷ shares) = (share.0, slope m a y share) ∷ slopes m a y shares

-- the coefficients of r + (x - a) q(x)
abbrev pub multiplied_by : ℕ → ℕ → ℕ → List ℕ → List ℕ
multiplied_by m a r [] = r ∷ []
multiplied_by m a r (q ∷ qs) = (r + (m - a * q % m)) % m ∷ multiplied_by m a q qs

-- the values are below m
abbrev pub ValuesBelow : ℕ → List (ℕ × ℕ) → Type 0
ValuesBelow m [] = Unit {0}
ValuesBelow m (share ∷ shares) = (share.1 < m) × ValuesBelow m shares

module _ (m : ℕ) (two : 2 ≤ m) (invert : (y : ℕ) → (y % m ≡ 0 → ⊥) → y * (y ^ (m - 2) % m) % m ≡ 1) where
  positive : 0 < m
  positive = omega (arith, two)

  slope_back : (a y x v : ℕ) → a < m → y < m → x < m → (x ≡ a → ⊥)
      → (slope m a y (x, v) * x + y) % m ≡ (v + slope m a y (x, v) * a) % m
  slope_back a y x v al yl xl other =
      let d = x + (m - a) in
      let w = v + (m - y) in
      let s = slope m a y (x, v) in
      let back : s * d % m ≡ w % m =
      mul-mod_first (w * d ^ (m - 2)) d m ∙ ap (λ t. t % m) (regroup w (d ^ (m - 2)) d)
      ∙ sym (mul-mod_second w (d * d ^ (m - 2)) m)
      ∙ ap (λ t. w * t % m) (sym (mul-mod_second d (d ^ (m - 2)) m) ∙ invert d (some_difference m x a xl al other))
      ∙ ap (λ t. t % m) (times_one w) in
      without m (s * x + y) (v + s * a) (s * m + w) (1 * m + s * d) positive
      (spread s x y v a m (m - a) (m - y) (whole a al) (whole y yl))
      (sums m (s * m) (1 * m) w (s * d) (mul-mod_left s m ∙ sym (mul-mod_left 1 m)) (sym back))
    where
      regroup : (z p d : ℕ) → z * p * d ≡ z * (d * p)
      regroup z p d = omega arith

      times_one : (z : ℕ) → z * 1 ≡ z
      times_one z = omega arith

      whole : (x : ℕ) → x < m → m ≡ m - x + x
      whole x l = omega (arith, l)

      spread : (s x y v a m b c : ℕ) → m ≡ b + a → m ≡ c + y
          → s * x + y + (s * m + (v + c)) ≡ v + s * a + (1 * m + s * (x + b))
      spread s x y v a m b c e h = ap (λ t. s * x + y + (s * t + (v + c))) e ∙ both s x y v a b c
          ∙ ap (λ t. v + s * a + (1 * t + s * (x + b))) (sym h)
        where
          both : (s x y v a b c : ℕ)
              → s * x + y + (s * (b + a) + (v + c)) ≡ v + s * a + (1 * (c + y) + s * (x + b))
          both s x y v a b c = omega arith

  difference_back : (r t : ℕ) → (((r + (m - t % m)) % m) + t) % m ≡ r % m
  difference_back r t =
      sums m _ (r + (m - t % m)) t (t % m) (mod-mod (r + (m - t % m)) m) (sym (mod-mod t m))
      ∙ ap (λ k. k % m) (whole r (t % m) m (mod-lt t positive)) ∙ add-mul-mod_self_right r 1 m
    where
      whole : (r t m : ℕ) → t < m → r + (m - t) + t ≡ r + 1 * m
      whole r t m l = omega (arith, l)

  multiplied_is : (qs : List ℕ) (a r x : ℕ)
      → (polynomial_value m (multiplied_by m a r qs) x + a * polynomial_value m qs x) % m
      ≡ (r + x * polynomial_value m qs x) % m
  multiplied_is [] a r x =
      sums m _ (r + x * 0) (a * 0) 0 (mod-mod (r + x * 0) m) (ap (λ t. t % m) (none a)) ∙ ap (λ t. t % m) (alone r x)
    where
      none : (a : ℕ) → a * 0 ≡ 0
      none a = omega arith

      alone : (r x : ℕ) → r + x * 0 + 0 ≡ r + x * 0
      alone r x = omega arith
  multiplied_is (q ∷ qs) a r x =
      let c = (r + (m - a * q % m)) % m in
      let v = polynomial_value m (multiplied_by m a q qs) x in
      let p = polynomial_value m qs x in
      sums m _ (c + x * v) _ (a * (q + x * p)) (mod-mod (c + x * v) m) (second a (q + x * p))
      ∙ ap (λ t. t % m) (parts c x v a q p)
      ∙ sums m (c + a * q) r (x * (v + a * p)) (x * (q + x * p)) (difference_back r (a * q))
      (products m x x (v + a * p) (q + x * p) refl (multiplied_is qs a q x))
      ∙ sums m r r _ _ refl (sym (second x (q + x * p)))
    where
      second : (k n : ℕ) → k * (n % m) % m ≡ k * n % m
      second k n = mul-mod_second k n m

      parts : (c x v a q p : ℕ) → c + x * v + a * (q + x * p) ≡ c + a * q + x * (v + a * p)
      parts c x v a q p = omega arith

  length-multiplied : (qs : List ℕ) (a r : ℕ) → length (multiplied_by m a r qs) ≡ suc (length qs)
  length-multiplied [] a r = refl
  length-multiplied (q ∷ qs) a r = ap suc (length-multiplied qs a q)

  multiplied_below : (qs : List ℕ) (a r : ℕ) → r < m → AllBelow m qs → AllBelow m (multiplied_by m a r qs)
  multiplied_below [] a r l below = (l, tt)
  multiplied_below (q ∷ qs) a r l below =
      (mod-lt (r + (m - a * q % m)) positive, multiplied_below qs a q below.0 below.1)

  same_value : (cs : List ℕ) (x v : ℕ) → v < m → polynomial_value m cs x % m ≡ v % m → v ≡ polynomial_value m cs x
  same_value cs x v l e = sym (mod-eq_of_lt l) ∙ sym e ∙ value_below m two invert cs x

  -- slopes that a polynomial has make values of the one that is multiplied
  raised : (a y : ℕ) (qs : List ℕ) (shares : List (ℕ × ℕ)) → a < m → y < m → AllBelow m (places_of shares)
      → ValuesBelow m shares → Apart a (places_of shares) → AreSharesOf m qs (slopes m a y shares)
      → AreSharesOf m (multiplied_by m a y qs) shares
  raised a y qs [] al yl below values apart are = tt
  raised a y qs ((x, v) ∷ shares) al yl below values apart are =
      let s = slope m a y (x, v) in
      let p = polynomial_value m qs x in
      let value = polynomial_value m (multiplied_by m a y qs) x in (
        same_value (multiplied_by m a y qs) x v values.0
            (without m value v (y + x * p + (v + s * a)) (value + a * p + (s * x + y)) positive
            (spread value v a p s x y are.0)
            (sums m _ _ _ _ (sym (multiplied_is qs a y x))
            (sym (slope_back a y x v al yl below.0 (λ e. apart.0 (sym e)))))),
        raised a y qs shares al yl below.1 values.1 apart.1 are.1,
      )
    where
      spread : (value v a p s x y : ℕ) → s ≡ p
          → value + (y + x * p + (v + s * a)) ≡ v + (value + a * p + (s * x + y))
      spread value v a p s x y e =
          ap (λ t. value + (y + x * p + (v + t * a))) e ∙ both value v a p x y
          ∙ ap (λ t. v + (value + a * p + (t * x + y))) (sym e)
        where
          both : (value v a p x y : ℕ)
              → value + (y + x * p + (v + p * a)) ≡ v + (value + a * p + (p * x + y))
          both value v a p x y = omega arith

  -- at a itself the value is r
  multiplied_at : (qs : List ℕ) (a r : ℕ) → r < m → r ≡ polynomial_value m (multiplied_by m a r qs) a
  multiplied_at qs a r l =
      let p = a * polynomial_value m qs a in
      let v = polynomial_value m (multiplied_by m a r qs) a in
      same_value (multiplied_by m a r qs) a r l
      (without m v r (r + p) (v + p) positive (turn v r p) (sym (multiplied_is qs a r a)))
    where
      turn : (v r p : ℕ) → v + (r + p) ≡ r + (v + p)
      turn v r p = omega arith

  slopes_places : (a y : ℕ) (shares : List (ℕ × ℕ)) → places_of (slopes m a y shares) ≡ places_of shares
  slopes_places a y [] = refl
  slopes_places a y (share ∷ shares) = ap (λ t. share.0 ∷ t) (slopes_places a y shares)

  slopes_below : (a y : ℕ) (shares : List (ℕ × ℕ)) → ValuesBelow m (slopes m a y shares)
  slopes_below a y [] = tt
  slopes_below a y (share ∷ shares) =
      (mod-lt ((share.1 + (m - y)) * (share.0 + (m - a)) ^ (m - 2)) positive, slopes_below a y shares)

  length-slopes : (a y : ℕ) (shares : List (ℕ × ℕ)) → length (slopes m a y shares) ≡ length shares
  length-slopes a y [] = refl
  length-slopes a y (share ∷ shares) = ap suc (length-slopes a y shares)

  -- a polynomial through the shares, by Newton's divided differences
  pub record Interpolates (shares : List (ℕ × ℕ)) (cs : List ℕ) : Type 0 where
    pub long : length cs ≡ length shares
    pub below : AllBelow m cs
    pub are : AreSharesOf m cs shares

  pub interpolated : (n : ℕ) (shares : List (ℕ × ℕ)) → length shares ≡ n → AllBelow m (places_of shares)
      → ValuesBelow m shares → AreApart (places_of shares) → (cs : List ℕ) × Interpolates shares cs
  interpolated n [] is below values apart = ([], record { long = refl; below = tt; are = tt })
  interpolated zero (share ∷ shares) is below values apart = absurd (omega (arith, is))
  interpolated (suc n) (share ∷ shares) is below values apart =
      let a = share.0 in
      let y = share.1 in
      let rest = slopes m a y shares in
      let same = slopes_places a y shares in
      let found = interpolated n rest (length-slopes a y shares ∙ one_less is) (subst (AllBelow m) (sym same) below.1)
      (slopes_below a y shares) (subst AreApart (sym same) apart.1) in (
        multiplied_by m a y found.0,
        record {
          long = length-multiplied found.0 a y ∙ ap suc (found.1.long ∙ length-slopes a y shares);
          below = multiplied_below found.0 a y values.0 found.1.below;
          are = (
            multiplied_at found.0 a y values.0,
            raised a y found.0 shares below.0 values.0 below.1 values.1 apart.0 found.1.are,
          );
        },
      )
    where
      one_less : suc (length shares) ≡ suc n → length shares ≡ n
      one_less e = omega (arith, e)

  -- ---- with a secret that is told

  -- slopes from the secret at 0 make the coefficients behind it
  behind_secret : (secret : ℕ) (qs : List ℕ) (shares : List (ℕ × ℕ)) → secret < m → AllBelow m (places_of shares)
      → ValuesBelow m shares → Apart 0 (places_of shares) → AreSharesOf m qs (slopes m 0 secret shares)
      → AreSharesOf m (secret ∷ qs) shares
  behind_secret secret qs [] l below values apart are = tt
  behind_secret secret qs ((x, v) ∷ shares) l below values apart are =
      let s = slope m 0 secret (x, v) in (
        sym (mod-eq_of_lt values.0) ∙ ap (λ t. t % m) (none v s)
            ∙ sym (slope_back 0 secret x v positive l below.0 (λ e. apart.0 (sym e)))
            ∙ ap (λ t. t % m) (turn s x secret) ∙ ap (λ t. (secret + x * t) % m) are.0,
        behind_secret secret qs shares l below.1 values.1 apart.1 are.1,
      )
    where
      none : (v s : ℕ) → v ≡ v + s * 0
      none v s = omega arith

      turn : (s x y : ℕ) → s * x + y ≡ y + x * s
      turn s x y = omega arith

  -- coefficients behind a secret, of a polynomial through the shares
  pub record Completes (secret : ℕ) (shares : List (ℕ × ℕ)) (cs : List ℕ) : Type 0 where
    pub long : length cs ≡ length shares
    pub below : AllBelow m cs
    pub are : AreSharesOf m (secret ∷ cs) shares

  pub any_secret : (secret : ℕ) (shares : List (ℕ × ℕ)) → secret < m → ValuesBelow m shares
      → FitPlaces m (places_of shares) → (cs : List ℕ) × Completes secret shares cs
  any_secret secret shares l values fit =
      let rest = slopes m 0 secret shares in
      let same = slopes_places 0 secret shares in
      let found = interpolated (length rest) rest refl (subst (AllBelow m) (sym same) fit.below)
      (slopes_below 0 secret shares)
      (subst AreApart (sym same) fit.apart) in (
        found.0,
        record {
          long = found.1.long ∙ length-slopes 0 secret shares;
          below = found.1.below;
          are = behind_secret secret found.0 shares l fit.below values fit.some found.1.are;
        },
      )

  -- ---- one polynomial alone

  -- two polynomials have one value at each place
  abbrev Agree : List ℕ → List ℕ → List ℕ → Type 0
  Agree cs ds [] = Unit {0}
  Agree cs ds (x ∷ xs) = (polynomial_value m cs x ≡ polynomial_value m ds x) × Agree cs ds xs

  agree_sums : (cs ds zs xs : List ℕ) → Agree cs ds xs
      → sum_over (λ x. polynomial_value m cs x * lagrange_weight m zs x) xs
      ≡ sum_over (λ x. polynomial_value m ds x * lagrange_weight m zs x) xs
  agree_sums cs ds zs [] agree = refl
  agree_sums cs ds zs (x ∷ xs) agree =
      ap₂ (λ a b. a * lagrange_weight m zs x + b) agree.0 (agree_sums cs ds zs xs agree.1)

  -- a factor that is not 0 is left out
  divided_out : (x a b : ℕ) → x < m → (0 ≡ x → ⊥) → x * a % m ≡ x * b % m → a % m ≡ b % m
  divided_out x a b l other e =
      let i = x ^ (m - 2) % m in
      let one : x * i % m ≡ 1 % m =
      invert x (λ none. other (sym none ∙ mod-eq_of_lt l)) ∙ sym (mod-eq_of_lt two) in
      ap (λ t. t % m) (alone a) ∙ products m a a 1 (x * i) refl (sym one) ∙ ap (λ t. t % m) (turn a x i)
      ∙ multiples m (x * a) (x * b) i e ∙ ap (λ t. t % m) (sym (turn b x i)) ∙ products m b b (x * i) 1 refl one
      ∙ ap (λ t. t % m) (sym (alone b))
    where
      alone : (a : ℕ) → a ≡ a * 1
      alone a = omega arith

      turn : (a x i : ℕ) → a * (x * i) ≡ x * a * i
      turn a x i = omega arith

  tails_agree : (c : ℕ) (cs ds xs : List ℕ) → AllBelow m xs → Apart 0 xs → Agree (c ∷ cs) (c ∷ ds) xs → Agree cs ds xs
  tails_agree c cs ds [] below some agree = tt
  tails_agree c cs ds (x ∷ xs) below some agree =
      let p = polynomial_value m cs x in
      let q = polynomial_value m ds x in (
        sym (value_below m two invert cs x) ∙ divided_out x p q below.0 some.0
            (without m (x * p) (x * q) (c + x * q) (c + x * p) positive (turn c (x * p) (x * q)) (sym agree.0))
            ∙ value_below m two invert ds x,
        tails_agree c cs ds xs below.1 some.1 agree.1,
      )
    where
      turn : (c p q : ℕ) → p + (c + q) ≡ q + (c + p)
      turn c p q = omega arith

  one_alone : (cs ds xs : List ℕ) → length cs ≡ length ds → length cs ≤ length xs → AllBelow m cs → AllBelow m ds
      → FitPlaces m xs → Agree cs ds xs → cs ≡ ds
  one_alone [] [] xs long short first second fit agree = refl
  one_alone [] (d ∷ ds) xs long short first second fit agree = absurd (omega (arith, long))
  one_alone (c ∷ cs) [] xs long short first second fit agree = absurd (omega (arith, long))
  one_alone (c ∷ cs) (d ∷ ds) xs long short first second fit agree =
      let same : c ≡ d =
      sym (head c cs first.0) ∙ sym (weighted_values m two invert (c ∷ cs) xs short fit.below fit.apart)
      ∙ ap (λ t. t % m) (agree_sums (c ∷ cs) (d ∷ ds) xs xs agree)
      ∙ weighted_values m two invert (d ∷ ds) xs (omega (arith, short, long)) fit.below fit.apart
      ∙ head d ds second.0 in
      ap₂ (λ a b. a ∷ b) same
      (one_alone cs ds xs (omega (arith, long)) (omega (arith, short)) first.1 second.1 fit
      (tails_agree c cs ds xs fit.below fit.some (subst (λ t. Agree (c ∷ cs) (t ∷ ds) xs) (sym same) agree)))
    where
      head : (c : ℕ) (cs : List ℕ) → c < m → polynomial_value m (c ∷ cs) 0 % m ≡ c
      head c cs l = mod-mod (c + 0 * polynomial_value m cs 0) m ∙ ap (λ t. t % m) (none c (polynomial_value m cs 0))
          ∙ mod-eq_of_lt l
        where
          none : (c v : ℕ) → c + 0 * v ≡ c
          none c v = omega arith

  agree_by_shares : (cs ds : List ℕ) (shares : List (ℕ × ℕ)) → AreSharesOf m cs shares → AreSharesOf m ds shares
      → Agree cs ds (places_of shares)
  agree_by_shares cs ds [] first second = tt
  agree_by_shares cs ds (share ∷ shares) first second =
      (sym first.0 ∙ second.0, agree_by_shares cs ds shares first.1 second.1)

  -- with its secret told, a polynomial with one coefficient more than there are shares is one alone
  pub one_polynomial : (secret : ℕ) (shares : List (ℕ × ℕ)) (cs ds : List ℕ) → FitPlaces m (places_of shares)
      → Completes secret shares cs → Completes secret shares ds → cs ≡ ds
  one_polynomial secret shares cs ds fit first second =
      let xs = places_of shares in
      one_alone cs ds xs (first.long ∙ sym second.long)
      (enough (length cs) _ _ first.long (length-map shares (λ share. share.0))) first.below second.below fit
      (tails_agree secret cs ds xs fit.below fit.some
      (agree_by_shares (secret ∷ cs) (secret ∷ ds) shares first.are second.are))
    where
      enough : (k n p : ℕ) → k ≡ n → p ≡ n → k ≤ p
      enough k n p e h = omega (arith, e, h)
