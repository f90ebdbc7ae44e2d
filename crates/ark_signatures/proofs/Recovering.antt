-- The value at 0 of a polynomial by its values: Lagrange's sum is that of every polynomial short enough.
use Rattle.std.proofs.Common.{◌≡◌, ℕ, suc, ◌+◌, ◌-◌, ◌*◌, ◌%◌, ◌^◌, ◌<◌, ◌≤◌, List, [], ◌∷◌, length, get_or}
use Rattle.std.proofs.Common.{refl, sym, ◌∙◌, ap, arith, mod-eq_of_lt}
use Rattle.std.proofs.Math.Nat.{mod-mod}
use Rattle.number_facts.proofs.CongruenceLaws.{sums, multiples, products, without}
use Rattle.ark_signatures.specs.SecretShares.{polynomial_value, ratio, lagrange_weight, lagrange_sum, value_at_zero, ArePlaces, AreSharesOf}
use Rattle.ark_signatures.specs.SecretShares.{places_of}
use Rattle.ark_signatures.proofs.Interpolation.{sum_over, Apart, AreApart, AllBelow, FitPlaces, factor_out}
use Rattle.ark_signatures.proofs.Interpolation.{ratio_is, weights_are_one}

-- the coefficients of (x p(x) - a p(a)) / (x - a)
abbrev pub divided : ℕ → List ℕ → ℕ → List ℕ
divided m [] a = []
divided m (c ∷ cs) a = polynomial_value m (c ∷ cs) a ∷ divided m cs a

pub length-divided : (m : ℕ) (cs : List ℕ) (a : ℕ) → length (divided m cs a) ≡ length cs
length-divided m [] a = refl
length-divided m (c ∷ cs) a = ap suc (length-divided m cs a)

module _ (m : ℕ) (pos : 0 < m) where
  -- what division gives, times x - a
  divided_back : (cs : List ℕ) (a x : ℕ)
      → (x * polynomial_value m cs x + a * polynomial_value m (divided m cs a) x) % m
      ≡ (a * polynomial_value m cs a + x * polynomial_value m (divided m cs a) x) % m
  divided_back [] a x = ap (λ t. t % m) (none a x)
    where
      none : (a x : ℕ) → x * 0 + a * 0 ≡ a * 0 + x * 0
      none a x = omega arith
  divided_back (c ∷ cs) a x =
      let p = polynomial_value m cs x in
      let pa = polynomial_value m cs a in
      let d = polynomial_value m (divided m cs a) x in
      let v = polynomial_value m (c ∷ cs) a in
      sums m _ _ _ _ (second x (c + x * p)) (second a (v + x * d))
      ∙ without m _ _ (v * x + (a * pa + x * d) * x) ((c + a * pa) * x + (x * p + a * d) * x) pos
      (spread a x c p pa d v)
      (sums m _ _ _ _ (multiples m v (c + a * pa) x (mod-mod (c + a * pa) m))
      (multiples m (a * pa + x * d) (x * p + a * d) x (sym (divided_back cs a x))))
      ∙ sym (sums m _ _ _ _ refl (second x (v + x * d)))
    where
      second : (k n : ℕ) → k * (n % m) % m ≡ k * n % m
      second k n = products m k k (n % m) n refl (mod-mod n m)

      spread : (a x c p pa d v : ℕ)
          → x * (c + x * p) + a * (v + x * d) + (v * x + (a * pa + x * d) * x)
          ≡ a * v + x * (v + x * d) + ((c + a * pa) * x + (x * p + a * d) * x)
      spread a x c p pa d v = omega arith

  -- the polynomial, by its value at a and what division gives
  pub parted : (c : ℕ) (cs : List ℕ) (a x : ℕ)
      → (polynomial_value m (c ∷ cs) x + a * polynomial_value m (divided m cs a) x) % m
      ≡ (polynomial_value m (c ∷ cs) a + x * polynomial_value m (divided m cs a) x) % m
  parted c cs a x =
      let p = polynomial_value m cs x in
      let pa = polynomial_value m cs a in
      let d = polynomial_value m (divided m cs a) x in
      sums m _ _ (a * d) (a * d) (mod-mod (c + x * p) m) refl
      ∙ ap (λ t. t % m) (before c (x * p) (a * d))
      ∙ sums m c c (x * p + a * d) (a * pa + x * d) refl (divided_back cs a x)
      ∙ ap (λ t. t % m) (sym (before c (a * pa) (x * d)))
      ∙ sym (sums m _ _ (x * d) (x * d) (mod-mod (c + a * pa) m) refl)
    where
      before : (c s t : ℕ) → c + s + t ≡ c + (s + t)
      before c s t = omega arith

-- elements that differ at each two places
apart_from : (a : ℕ) (xs : List ℕ) → ((j : ℕ) → j < length xs → a ≡ get_or xs j 0 → ⊥) → Apart a xs
apart_from a [] other = tt
apart_from a (x ∷ xs) other =
    (other 0 (omega arith), apart_from a xs (λ j l. other (suc j) (omega (arith, l))))

all_apart : (xs : List ℕ) → ((i j : ℕ) → i < j → j < length xs → get_or xs i 0 ≡ get_or xs j 0 → ⊥) → AreApart xs
all_apart [] other = tt
all_apart (x ∷ xs) other = (
  apart_from x xs (λ j l. other 0 (suc j) (omega arith) (omega (arith, l))),
  all_apart xs (λ i j k l. other (suc i) (suc j) (omega (arith, k)) (omega (arith, l))),
)

pub fit_places : (m : ℕ) (xs : List ℕ) → ArePlaces xs (length xs) → AllBelow m xs → FitPlaces m xs
fit_places m xs are below = record {
  below = below;
  some = apart_from 0 xs (λ j l e. are.some j l (sym e));
  apart = all_apart xs are.different;
}

module _ (m : ℕ) (two : 2 ≤ m) (invert : (y : ℕ) → (y % m ≡ 0 → ⊥) → y * (y ^ (m - 2) % m) % m ≡ 1) where
  positive : 0 < m
  positive = omega (arith, two)

  -- one place's part, by the value at a and what division gives
  part_step : (p q pa f u a x : ℕ) → (p + a * q) % m ≡ (pa + x * q) % m → f * a % m ≡ (a + f * x) % m
      → (p * (f * u) + a * (q * u)) % m ≡ pa * (f * u) % m
  part_step p q pa f u a x is_p is_f =
      without m _ _ ((pa + x * q) * (f * u) + f * a * (q * u)) ((p + a * q) * (f * u) + (a + f * x) * (q * u)) positive
      (spread p q pa f u a x)
      (sums m _ _ _ _ (multiples m (pa + x * q) (p + a * q) (f * u) (sym is_p))
      (multiples m (f * a) (a + f * x) (q * u) is_f))
    where
      spread : (p q pa f u a x : ℕ)
          → p * (f * u) + a * (q * u) + ((pa + x * q) * (f * u) + f * a * (q * u))
          ≡ pa * (f * u) + ((p + a * q) * (f * u) + (a + f * x) * (q * u))
      spread p q pa f u a x = omega arith

  part_sums : (p q u : ℕ → ℕ) (pa a : ℕ) (xs : List ℕ) → a < m → AllBelow m xs → Apart a xs
      → ((x : ℕ) → (p x + a * q x) % m ≡ (pa + x * q x) % m)
      → (sum_over (λ x. p x * (ratio m a x * u x)) xs + a * sum_over (λ x. q x * u x) xs) % m
      ≡ pa * sum_over (λ x. 1 * (ratio m a x * u x)) xs % m
  part_sums p q u pa a [] al below apart is_p = ap (λ t. t % m) (none a pa)
    where
      none : (a pa : ℕ) → 0 + a * 0 ≡ pa * 0
      none a pa = omega arith
  part_sums p q u pa a (x ∷ xs) al below apart is_p =
      let f = ratio m a x in
      ap (λ t. t % m) (parts a _ _ _ _)
      ∙ sums m _ _ _ _
      (part_step (p x) (q x) pa f (u x) a x (is_p x) (ratio_is m two invert a x al below.0 apart.0)
      ∙ ap (λ t. t % m) (one pa (f * u x)))
      (part_sums p q u pa a xs al below.1 apart.1 is_p)
      ∙ ap (λ t. t % m) (sym (both pa _ _))
    where
      parts : (a b c d e : ℕ) → b + c + a * (d + e) ≡ b + a * d + (c + a * e)
      parts a b c d e = omega arith

      both : (a b c : ℕ) → a * (b + c) ≡ a * b + a * c
      both a b c = omega arith

      one : (a b : ℕ) → a * b ≡ a * (1 * b)
      one a b = omega arith

  gathered : (p0 pa A F S Q a : ℕ) → (S + a * Q) % m ≡ pa * F % m → (A + F) % m ≡ 1 % m → (p0 + a * Q) % m ≡ pa % m
      → (pa * A + S) % m ≡ p0 % m
  gathered p0 pa A F S Q a part one at_zero =
      without m (pa * A + S) p0 (pa * F + (1 * pa + (p0 + a * Q))) (S + a * Q + ((A + F) * pa + pa)) positive
      (spread p0 pa A F S Q a)
      (sums m _ _ _ _ (sym part) (sums m _ _ _ _ (multiples m 1 (A + F) pa (sym one)) at_zero))
    where
      spread : (p0 pa A F S Q a : ℕ)
          → pa * A + S + (pa * F + (1 * pa + (p0 + a * Q))) ≡ p0 + (S + a * Q + ((A + F) * pa + pa))
      spread p0 pa A F S Q a = omega arith

  -- the lagrange_sum values of a polynomial with at most as many coefficients as there are places
  pub weighted_values : (cs xs : List ℕ) → length cs ≤ length xs → AllBelow m xs → AreApart xs
      → sum_over (λ x. polynomial_value m cs x * lagrange_weight m xs x) xs % m ≡ polynomial_value m cs 0 % m
  weighted_values [] xs short below apart = ap (λ t. t % m) (none xs (lagrange_weight m xs))
    where
      none : (xs : List ℕ) (w : ℕ → ℕ) → sum_over (λ x. 0 * w x) xs ≡ 0
      none [] w = refl
      none (x ∷ xs) w = let h = none xs w in omega (arith, h)
  weighted_values (c ∷ cs) [] short below apart = absurd (omega (arith, short))
  weighted_values (c ∷ cs) (a ∷ xs) short below apart =
      let p = polynomial_value m (c ∷ cs) in
      let q = polynomial_value m (divided m cs a) in
      let u = lagrange_weight m xs in
      let A = lagrange_weight m (a ∷ xs) a in
      let S = sum_over (λ x. p x * lagrange_weight m (a ∷ xs) x) xs in
      let W = sum_over (lagrange_weight m (a ∷ xs)) xs in
      let F = sum_over (λ x. 1 * (ratio m a x * u x)) xs in
      let Q = sum_over (λ x. q x * u x) xs in
      let rest : Q % m ≡ q 0 % m =
      weighted_values (divided m cs a) xs (shorter (length-divided m cs a) short) below.1 apart.1 in
      let one : (A + F) % m ≡ 1 % m =
      sums m A A F W refl
      (sym (factor_out m two invert (λ x. 1) a xs xs apart.0) ∙ ap (λ t. t % m) (alone (lagrange_weight m (a ∷ xs)) xs))
      ∙ weights_are_one m two invert a xs below.0 below.1 apart.0 apart.1 in
      let part : (S + a * Q) % m ≡ p a * F % m =
      sums m S _ (a * Q) (a * Q) (factor_out m two invert p a xs xs apart.0) refl
      ∙ part_sums p q u (p a) a xs below.0 below.1 apart.0 (parted m positive c cs a) in
      let at_zero : (p 0 + a * Q) % m ≡ p a % m =
      sums m _ _ _ _ refl (products m a a Q (q 0) refl rest) ∙ parted m positive c cs a 0
      ∙ ap (λ t. t % m) (no_more (p a) (q 0)) in
      gathered (p 0) (p a) A F S Q a part one at_zero
    where
      no_more : (v w : ℕ) → v + 0 * w ≡ v
      no_more v w = omega arith

      shorter : {n k l : ℕ} → n ≡ k → suc k ≤ suc l → n ≤ l
      shorter e le = omega (arith, e, le)

      alone : (w : ℕ → ℕ) (xs : List ℕ) → sum_over (λ x. 1 * w x) xs ≡ sum_over w xs
      alone w [] = refl
      alone w (x ∷ xs) = let h = alone w xs in omega (arith, h)

  -- ---- shares

  -- Lagrange's sum over shares of a polynomial
  of_values : (cs zs : List ℕ) (shares : List (ℕ × ℕ)) → AreSharesOf m cs shares
      → lagrange_sum m zs shares % m
      ≡ sum_over (λ x. polynomial_value m cs x * lagrange_weight m zs x) (places_of shares) % m
  of_values cs zs [] values = refl
  of_values cs zs (s ∷ shares) values =
      mod-mod (s.1 * lagrange_weight m zs s.0 + lagrange_sum m zs shares) m
      ∙ sums m _ _ _ _ (ap (λ t. t * lagrange_weight m zs s.0 % m) values.0) (of_values cs zs shares values.1)

  pub weighted_below : (zs : List ℕ) (shares : List (ℕ × ℕ)) → lagrange_sum m zs shares % m ≡ lagrange_sum m zs shares
  weighted_below zs [] = mod-eq_of_lt positive
  weighted_below zs (s ∷ shares) = mod-mod (s.1 * lagrange_weight m zs s.0 + lagrange_sum m zs shares) m

  pub value_below : (cs : List ℕ) (x : ℕ) → polynomial_value m cs x % m ≡ polynomial_value m cs x
  value_below [] x = mod-eq_of_lt positive
  value_below (c ∷ cs) x = mod-mod (c + x * polynomial_value m cs x) m

  -- Lagrange's sum over enough shares of a polynomial is its value at 0
  pub sum_is_secret : (cs : List ℕ) (shares : List (ℕ × ℕ)) → ArePlaces (places_of shares) (length (places_of shares))
      → AllBelow m (places_of shares) → AreSharesOf m cs shares → length cs ≤ length (places_of shares)
      → value_at_zero m shares ≡ polynomial_value m cs 0
  sum_is_secret cs shares fit below values enough =
      let xs = places_of shares in
      sym (weighted_below xs shares) ∙ of_values cs xs shares values
      ∙ weighted_values cs xs enough below (all_apart xs fit.different) ∙ value_below cs 0
