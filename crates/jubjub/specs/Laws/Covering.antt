-- In a group of prime order, told apart by fewer numbers than the order's square, each element is a multiple of each
-- element but zero: else the sums of multiples of both were too many.
use Rattle.std.proofs.Common.{◌≡◌, ℕ, zero, suc, ◌+◌, ◌-◌, ◌*◌, ◌/◌, ◌%◌, ◌<◌, ◌≤◌, sym, ◌∙◌, ap, ap₂, subst, arith}
use Rattle.std.proofs.Common.{mod-lt}
use Rattle.std.proofs.Common.{mod-eq_of_lt, div-add-mod', mul_comm, ◌⊎◌, inl, inr, ⊎_elim}
use Rattle.std.proofs.Math.Nat.{div-lt_iff_lt-mul}
use Rattle.std.proofs.lemmas.Bool.{cases_lt, cases_eq}
use Rattle.number_facts.proofs.Pigeonhole.{Apart, taken}
use Rattle.ark_groups.specs.Group.{Group, IsCommutativeGroup, times}
use Rattle.ark_groups.proofs.Multiples.{times-add, times-mul, times-mod}

pub strict : (m n : ℕ) → (m ≡ n → ⊥) → n ≤ m → n < m
strict m n other l = ⊎_elim {C = n < m} (λ s. s) (λ s. absurd (other (omega (arith, l, s)))) (cases_lt n m)

module _ {G : Type 0} (g : Group G) (laws : IsCommutativeGroup g) where
  back : (u w : G) → g.plus (g.opposite w) (g.plus u w) ≡ u
  back u w =
      ap (g.plus (g.opposite w)) (laws.comm u w) ∙ sym (laws.assoc (g.opposite w) w u)
      ∙ ap (λ t. g.plus t u) (laws.left_opposite w) ∙ laws.left_identity u

  -- what is added on both sides is left out
  pub cancel : (u v w : G) → g.plus u w ≡ g.plus v w → u ≡ v
  cancel u v w e = sym (back u w) ∙ ap (g.plus (g.opposite w)) e ∙ back v w

  -- a multiple is the multiple by the difference, and the rest
  parted : (m n : ℕ) (x : G) → n ≤ m → times g m x ≡ g.plus (times g (m - n) x) (times g n x)
  parted m n x l = ap (λ k. times g k x) (whole m n l) ∙ times-add laws (m - n) n x
    where
      whole : (m n : ℕ) → n ≤ m → m ≡ m - n + n
      whole m n l = omega (arith, l)

  -- where no smaller count makes zero of x, no two multiples below s are the same
  module _ (s : ℕ) (x : G) (least : (n : ℕ) → 0 < n → n < s → times g n x ≡ g.identity → ⊥) where
    apart_from : (m n : ℕ) → n < m → m < s → times g m x ≡ times g n x → ⊥
    apart_from m n l h e =
        least (m - n) (positive m n l) (smaller m n s h)
        (cancel (times g (m - n) x) g.identity (times g n x)
        (sym (parted m n x (weak m n l)) ∙ e ∙ sym (laws.left_identity (times g n x))))
      where
        weak : (m n : ℕ) → n < m → n ≤ m
        weak m n l = omega (arith, l)

        positive : (m n : ℕ) → n < m → 0 < m - n
        positive m n l = omega (arith, l)

        smaller : (m n s : ℕ) → m < s → m - n < s
        smaller m n s l = omega (arith, l)

    pub apart_below : (m n : ℕ) → m < s → n < s → times g m x ≡ times g n x → m ≡ n
    apart_below m n h k e =
        ⊎_elim {C = m ≡ n} (λ s. s)
        (λ other. ⊎_elim {C = m ≡ n} (λ l. absurd (apart_from n m l k (sym e)))
        (λ l. absurd (apart_from m n (strict m n other l) h e)) (cases_lt m n))
        (cases_eq m n)

  -- where s times x is zero, two sums that are the same make the difference of the multiples of y one of x
  pub solved : (s : ℕ) (x y : G) → times g s x ≡ g.identity → (a b c d : ℕ) → a < s → d < b
      → g.plus (times g a x) (times g b y) ≡ g.plus (times g c x) (times g d y)
      → times g (b - d) y ≡ times g (s - a + c) x
  solved s x y none a b c d h l e =
      let n : ℕ = b - d in
      let first : g.plus (times g a x) (times g n y) ≡ times g c x =
      cancel (g.plus (times g a x) (times g n y)) (times g c x) (times g d y)
      (laws.assoc (times g a x) (times g n y) (times g d y)
      ∙ ap (g.plus (times g a x)) (sym (parted b d y (weak d b l))) ∙ e) in
      sym (laws.left_identity (times g n y)) ∙ ap (λ t. g.plus t (times g n y)) (sym none
      ∙ parted s a x (weak a s h)) ∙ laws.assoc (times g (s - a) x) (times g a x) (times g n y)
      ∙ ap (g.plus (times g (s - a) x)) first ∙ sym (times-add laws (s - a) c x)
    where
      weak : (m n : ℕ) → m < n → m ≤ n
      weak m n l = omega (arith, l)

  module _ (number : G → ℕ) (p r : ℕ) (tells : (a b : G) → number a ≡ number b → a ≡ b)
      (below : (a : G) → number a < p) (few : p < r * r) (pos : 0 < r)
      (inverse : (n : ℕ) → (n % r ≡ 0 → ⊥) → (z : ℕ) × (n * z % r ≡ 1))
      (of_order : (a : G) → times g r a ≡ g.identity)
      (prime : (n : ℕ) (a : G) → times g n a ≡ g.identity → (n % r ≡ 0 → ⊥) → a ≡ g.identity)
      (x : G) (some : x ≡ g.identity → ⊥) where
    not_zero : (n : ℕ) → 0 < n → n < r → n % r ≡ 0 → ⊥
    not_zero n l h e = clash n l (sym (mod-eq_of_lt h) ∙ e)
      where
        clash : (n : ℕ) → 0 < n → n ≡ 0 → ⊥
        clash n l e = omega (arith, l, e)

    -- no two multiples below the order are the same
    pub multiples_apart : (m n : ℕ) → m < r → n < r → times g m x ≡ times g n x → m ≡ n
    multiples_apart = apart_below r x (λ n l h e. some (prime n x e (not_zero n l h)))

    module _ (y : G) where
      -- the multiple's count
      abbrev IsMultiple : Type 0
      IsMultiple = (k : ℕ) × (k < r) × (times g k x ≡ y)

      sum_of : ℕ → ℕ → G
      sum_of a b = g.plus (times g a x) (times g b y)

      -- two sums that are the same with different multiples of y make y a multiple
      made : (a b c d : ℕ) → a < r → d < b → b < r → sum_of a b ≡ sum_of c d → IsMultiple
      unfolding sum_of
      made a b c d h l k e =
          let n : ℕ = b - d in
          let one = inverse n (not_zero n (positive b d l) (smaller b d r k)) in
          let z = one.0 in
          let m : ℕ = r - a + c in
          let second = solved r x y (of_order x) a b c d h l e in (
            z * m % r,
            mod-lt (z * m) pos,
            times-mod laws r (z * m) x (of_order x) ∙ times-mul laws z m x ∙ ap (times g z) (sym second)
                ∙ sym (times-mul laws z n y) ∙ ap (λ t. times g t y) (mul_comm z n)
                ∙ sym (times-mod laws r (n * z) y (of_order y)) ∙ ap (λ t. times g t y) one.1 ∙ laws.left_identity y,
          )
        where
          positive : (b d : ℕ) → d < b → 0 < b - d
          positive b d l = omega (arith, l)

          smaller : (b d r : ℕ) → b < r → b - d < r
          smaller b d r l = omega (arith, l)

      -- a multiple below a bound is y, or none is
      decided : (n : ℕ) → n ≤ r → IsMultiple ⊎ ((k : ℕ) → k < n → times g k x ≡ y → ⊥)
      decided zero l = inr (λ k h e. none k h)
        where
          none : (k : ℕ) → k < 0 → ⊥
          none k h = omega (arith, h)
      decided (suc n) l =
          ⊎_elim {C = IsMultiple ⊎ ((k : ℕ) → k < suc n → times g k x ≡ y → ⊥)} (λ found. inl found)
          (λ none. ⊎_elim {C = IsMultiple ⊎ ((k : ℕ) → k < suc n → times g k x ≡ y → ⊥)}
          (λ same. inl (n, l, tells (times g n x) y same))
          (λ other. inr (λ k h e. ⊎_elim {C = ⊥} (λ is. other (ap number (subst (λ t. times g t x ≡ y) is e)))
          (λ not_last. none k (lower k n h not_last) e) (cases_eq k n)))
          (cases_eq (number (times g n x)) (number y)))
          (decided n (weak n r l))
        where
          weak : (n r : ℕ) → suc n ≤ r → n ≤ r
          weak n r l = omega (arith, l)

          lower : (k n : ℕ) → k < suc n → (k ≡ n → ⊥) → k < n
          lower k n h other =
              ⊎_elim {C = k < n} (λ s. s) (λ s. absurd (other (omega (arith, h, s)))) (cases_lt k n)

      -- so many sums
      value : ℕ → ℕ
      value i = number (sum_of (i / r) (i % r))

      high : (i : ℕ) → i < r * r → i / r < r
      high i l = (div-lt_iff_lt-mul {k = r} {x = i} {y = r} pos).1 l

      all_apart : (IsMultiple → ⊥) → Apart (r * r) value
      unfolding value sum_of
      all_apart none i j l h e =
          let in_i : i < r * r = later i j (r * r) l h in
          let same : sum_of (i / r) (i % r) ≡ sum_of (j / r) (j % r) = tells _ _ e in
          ⊎_elim {C = ⊥}
          (λ even. different i j l (multiples_apart (i / r) (j / r) (high i in_i) (high j h)
          (cancel (times g (i / r) x) (times g (j / r) x) (times g (j % r) y)
          (ap (λ t. sum_of (i / r) t) (sym even) ∙ same))) even)
          (λ other. ⊎_elim {C = ⊥}
          (λ less. none (made (j / r) (j % r) (i / r) (i % r) (high j h) less (mod-lt j pos) (sym same)))
          (λ more. none (made (i / r) (i % r) (j / r) (j % r) (high i in_i) (strict (i % r) (j % r) other more)
          (mod-lt i pos) same))
          (cases_lt (i % r) (j % r)))
          (cases_eq (i % r) (j % r))
        where
          later : (i j n : ℕ) → i < j → j < n → i < n
          later i j n l h = omega (arith, l, h)

          different : (i j : ℕ) → i < j → i / r ≡ j / r → i % r ≡ j % r → ⊥
          different i j l e h =
              clash i j l (sym (div-add-mod' i r) ∙ ap₂ (λ a b. a * r + b) e h ∙ div-add-mod' j r)
            where
              clash : (i j : ℕ) → i < j → i ≡ j → ⊥
              clash i j l e = omega (arith, l, e)

      pub is_multiple : IsMultiple
      unfolding value
      is_multiple =
          ⊎_elim {C = IsMultiple} (λ found. found) (λ none. absurd (too_many (λ m. none m.0 m.1 m.2)))
          (decided r (same r))
        where
          same : (r : ℕ) → r ≤ r
          same r = omega arith

          within : (i : ℕ) → value i < p
          within i = below (sum_of (i / r) (i % r))

          too_many : (IsMultiple → ⊥) → ⊥
          too_many none =
              let at = taken (r * r) value (λ i h. under (value i) p (r * r) (within i) few) (all_apart none) p few in
              clash (value at.0) p (within at.0) at.2
            where
              under : (v p n : ℕ) → v < p → p < n → v < n
              under v p n l h = omega (arith, l, h)

              clash : (v p : ℕ) → v < p → v ≡ p → ⊥
              clash v p l e = omega (arith, l, e)
