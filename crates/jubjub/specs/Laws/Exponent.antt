-- In a group that is told apart by fewer numbers than 24 r, where an element has the order 8 r and is no double, 8 r
-- times each element is zero: else the sums of multiples of both were too many.
use Rattle.std.proofs.Common.{◌≡◌, ℕ, zero, suc, ◌+◌, ◌-◌, ◌*◌, ◌/◌, ◌%◌, ◌<◌, sym, ◌∙◌, ap, ap₂, arith}
use Rattle.std.proofs.Common.{div-add-mod', mul_comm, ⊎_elim}
use Rattle.std.proofs.lemmas.Bool.{cases_lt, cases_eq}
use Rattle.number_facts.proofs.Pigeonhole.{Apart, taken}
use Rattle.ark_groups.specs.Group.{Group, IsCommutativeGroup, times}
use Rattle.ark_groups.proofs.Multiples.{times-add, times-mul, times-mod, times-plus, times-identity, right_identity}
use Rattle.jubjub.specs.Laws.Covering.{strict, cancel, apart_below, solved}

-- 8 r times w is zero, 8 times and 4 r times are not, and w is no double
pub record HasFullOrder {G : Type 0} (g : Group G) (r : ℕ) (w : G) : Type 0 where
  pub zero : times g (8 * r) w ≡ g.identity
  pub eight : times g 8 w ≡ g.identity → ⊥
  pub half : times g (4 * r) w ≡ g.identity → ⊥
  pub no_double : (h : G) → times g 2 h ≡ w → ⊥

module _ {G : Type 0} (g : Group G) (laws : IsCommutativeGroup g) (r : ℕ)
    (inverse : (n : ℕ) → (n % r ≡ 0 → ⊥) → (z : ℕ) × (n * z % r ≡ 1)) (w : G) (full : HasFullOrder g r w) where
  -- where a multiple is zero, so are the multiple's multiples
  zero_times : (k n : ℕ) (x : G) → times g n x ≡ g.identity → times g (k * n) x ≡ g.identity
  zero_times k n x e = times-mul laws k n x ∙ ap (times g k) e ∙ times-identity laws k

  once : (x : G) → times g 1 x ≡ x
  once x = laws.left_identity x

  -- ---- the order of w

  -- a count that makes zero of w is a multiple of r
  by_r : (n : ℕ) → times g n w ≡ g.identity → n % r ≡ 0
  by_r n e = ⊎_elim {C = n % r ≡ 0} (λ z. z) (λ some. absurd (full.eight (one some))) (cases_eq (n % r) 0)
    where
      turn : (n z : ℕ) → n * z * 8 ≡ 8 * z * n
      turn n z = omega arith

      one : (n % r ≡ 0 → ⊥) → times g 8 w ≡ g.identity
      one some =
          let z = inverse n some in
          sym (once (times g 8 w)) ∙ ap (λ k. times g k (times g 8 w)) (sym z.1)
          ∙ times-mod laws r (n * z.0) (times g 8 w)
          (sym (times-mul laws r 8 w) ∙ ap (λ k. times g k w) (mul_comm r 8) ∙ full.zero)
          ∙ sym (times-mul laws (n * z.0) 8 w) ∙ ap (λ k. times g k w) (turn n z.0)
          ∙ zero_times (8 * z.0) n w e

  -- what 8 does not divide has a multiple that is 4 modulo 8
  four : (e : ℕ) → (e % 8 ≡ 0 → ⊥) → (m : ℕ) × (m * e % 8 ≡ 4)
  four e some =
      ⊎_elim {C = (m : ℕ) × (m * e % 8 ≡ 4)} (λ h. (4, omega (arith, h)))
      (λ even. ⊎_elim {C = (m : ℕ) × (m * e % 8 ≡ 4)} (λ h. (2, omega (arith, h)))
      (λ other. (1, omega (arith, some, even, other))) (cases_eq (e % 4) 2))
      (cases_eq (e % 2) 1)

  -- a count that makes zero of r times w is a multiple of 8
  by_eight : (c : ℕ) → times g (c * r) w ≡ g.identity → c % 8 ≡ 0
  by_eight c e = ⊎_elim {C = c % 8 ≡ 0} (λ z. z) (λ some. absurd (full.half (one some))) (cases_eq (c % 8) 0)
    where
      one : (c % 8 ≡ 0 → ⊥) → times g (4 * r) w ≡ g.identity
      one some =
          let m = four c some in
          times-mul laws 4 r w ∙ ap (λ k. times g k (times g r w)) (sym m.1)
          ∙ times-mod laws 8 (m.0 * c) (times g r w) (sym (times-mul laws 8 r w) ∙ full.zero)
          ∙ times-mul laws m.0 c (times g r w) ∙ ap (times g m.0) (sym (times-mul laws c r w) ∙ e)
          ∙ times-identity laws m.0

  -- no count below 8 r makes zero of w, but 0
  not_zero : (n : ℕ) → 0 < n → n < 8 * r → times g n w ≡ g.identity → ⊥
  not_zero n some small e =
      let split : n ≡ n / r * r = sym (div-add-mod' n r) ∙ ap (λ t. n / r * r + t) (by_r n e) ∙ with_none (n / r * r) in
      let eights = by_eight (n / r) (ap (λ k. times g k w) (sym split) ∙ e) in
      clash n (n / r / 8) (n / r) r split (eight_of (n / r) eights) some small
    where
      with_none : (a : ℕ) → a + 0 ≡ a
      with_none a = omega arith

      eight_of : (c : ℕ) → c % 8 ≡ 0 → c ≡ c / 8 * 8
      eight_of c h = omega (arith, h)

      parts : (q r : ℕ) → suc q * 8 * r ≡ 8 * r + q * 8 * r
      parts q r = omega arith

      clash : (n q c r : ℕ) → n ≡ c * r → c ≡ q * 8 → 0 < n → n < 8 * r → ⊥
      clash n zero c r is by some small = none n c r is by some
        where
          none : (n c r : ℕ) → n ≡ c * r → c ≡ 0 * 8 → 0 < n → ⊥
          none n c r is by some = more n (is ∙ ap (λ t. t * r) by ∙ nothing r) some
            where
              nothing : (r : ℕ) → 0 * 8 * r ≡ 0
              nothing r = omega arith

              more : (n : ℕ) → n ≡ 0 → 0 < n → ⊥
              more n h l = omega (arith, h, l)
      clash n (suc q) c r is by some small = less n (8 * r) (q * 8 * r) (is ∙ ap (λ t. t * r) by ∙ parts q r) small
        where
          less : (n a b : ℕ) → n ≡ a + b → n < a → ⊥
          less n a b h l = omega (arith, h, l)

  -- ---- an element that is not zero 8 r times

  module _ (x : G) (some : times g (8 * r) x ≡ g.identity → ⊥) where
    -- twice the element is no even multiple of w
    no_even : (k : ℕ) → times g 2 x ≡ times g (2 * k) w → ⊥
    no_even k e =
        some (ap (λ n. times g n x) (halved r) ∙ times-mul laws (4 * r) 2 x ∙ ap (times g (4 * r)) e
        ∙ sym (times-mul laws (4 * r) (2 * k) w) ∙ ap (λ n. times g n w) (turn k r)
        ∙ zero_times k (8 * r) w full.zero)
      where
        halved : (r : ℕ) → 8 * r ≡ 4 * r * 2
        halved r = omega arith

        turn : (k r : ℕ) → 4 * r * (2 * k) ≡ k * (8 * r)
        turn k r = omega arith

    -- and no odd one: w were a double
    no_odd : (k : ℕ) → times g 2 x ≡ times g (1 + 2 * k) w → ⊥
    no_odd k e =
        let v : G = times g k w in
        let o : G = g.opposite v in
        full.no_double (g.plus x o)
        (times-plus laws 2 x o ∙ ap (λ t. g.plus t (times g 2 o)) (e ∙ times-add laws 1 (2 * k) w
        ∙ ap₂ g.plus (once w) (times-mul laws 2 k w))
        ∙ laws.assoc w (times g 2 v) (times g 2 o) ∙ ap (g.plus w) (sym (times-plus laws 2 v o)
        ∙ ap (times g 2) (laws.comm v o ∙ laws.left_opposite v) ∙ times-identity laws 2)
        ∙ right_identity laws w)

    no_twice : (m : ℕ) → times g 2 x ≡ times g m w → ⊥
    no_twice m e =
        ⊎_elim {C = ⊥} (λ h. no_odd (m / 2) (e ∙ ap (λ k. times g k w) (odd m h)))
        (λ h. no_even (m / 2) (e ∙ ap (λ k. times g k w) (even m h))) (cases_eq (m % 2) 1)
      where
        odd : (m : ℕ) → m % 2 ≡ 1 → m ≡ 1 + 2 * (m / 2)
        odd m h = omega (arith, h)

        even : (m : ℕ) → (m % 2 ≡ 1 → ⊥) → m ≡ 2 * (m / 2)
        even m h = omega (arith, h)

    -- so neither it nor its double is a multiple of w
    no_multiple : (n m : ℕ) → 0 < n → n < 3 → times g n x ≡ times g m w → ⊥
    no_multiple n m pos small e =
        ⊎_elim {C = ⊥}
        (λ h. no_twice (2 * m) (ap (times g 2) (sym (once x) ∙ ap (λ k. times g k x) (sym h) ∙ e)
        ∙ sym (times-mul laws 2 m w)))
        (λ h. no_twice m (ap (λ k. times g k x) (two n pos small h) ∙ e))
        (cases_eq n 1)
      where
        two : (n : ℕ) → 0 < n → n < 3 → (n ≡ 1 → ⊥) → 2 ≡ n
        two n l h other = omega (arith, l, h, other)

    sum_of : ℕ → ℕ → G
    sum_of a b = g.plus (times g a w) (times g b x)

    -- two sums with different multiples of x differ
    sums_differ : (a b c d : ℕ) → a < 8 * r → d < b → b < 3 → sum_of a b ≡ sum_of c d → ⊥
    unfolding sum_of
    sums_differ a b c d h l k e =
        no_multiple (b - d) (8 * r - a + c) (positive b d l) (smaller b d k)
        (solved g laws (8 * r) w x full.zero a b c d h l e)
      where
        positive : (b d : ℕ) → d < b → 0 < b - d
        positive b d l = omega (arith, l)

        smaller : (b d : ℕ) → b < 3 → b - d < 3
        smaller b d l = omega (arith, l)

    -- so 24 r sums are apart
    apart : (i j : ℕ) → i < j → j < 8 * r * 3 → sum_of (i / 3) (i % 3) ≡ sum_of (j / 3) (j % 3) → ⊥
    unfolding sum_of
    apart i j l h same =
        let in_i : i < 8 * r * 3 = later i j (8 * r * 3) l h in
        ⊎_elim {C = ⊥}
        (λ even. different i j l (apart_below g laws (8 * r) w not_zero (i / 3) (j / 3) (high i in_i) (high j h)
        (cancel g laws (times g (i / 3) w) (times g (j / 3) w) (times g (j % 3) x)
        (ap (λ t. sum_of (i / 3) t) (sym even) ∙ same))) even)
        (λ other. ⊎_elim {C = ⊥}
        (λ less. sums_differ (j / 3) (j % 3) (i / 3) (i % 3) (high j h) less (rest j) (sym same))
        (λ more. sums_differ (i / 3) (i % 3) (j / 3) (j % 3) (high i in_i) (strict (i % 3) (j % 3) other more) (rest i)
        same)
        (cases_lt (i % 3) (j % 3)))
        (cases_eq (i % 3) (j % 3))
      where
        high : (i : ℕ) → i < 8 * r * 3 → i / 3 < 8 * r
        high i l = below i (8 * r) l
          where
            below : (i s : ℕ) → i < s * 3 → i / 3 < s
            below i s l = omega (arith, l)

        rest : (i : ℕ) → i % 3 < 3
        rest i = omega arith

        later : (i j n : ℕ) → i < j → j < n → i < n
        later i j n l h = omega (arith, l, h)

        different : (i j : ℕ) → i < j → i / 3 ≡ j / 3 → i % 3 ≡ j % 3 → ⊥
        different i j l e h = omega (arith, l, e, h)

  module _ (number : G → ℕ) (p : ℕ) (tells : (a b : G) → number a ≡ number b → a ≡ b)
      (below : (a : G) → number a < p) (few : p < 8 * r * 3) where
    number_of : G → ℕ → ℕ
    number_of x i = number (g.plus (times g (i / 3) w) (times g (i % 3) x))

    too_many : (x : G) → Apart (8 * r * 3) (number_of x) → ⊥
    unfolding number_of
    too_many x all =
        let n : ℕ = 8 * r * 3 in
        let at = taken n (number_of x) (λ i h. under (number_of x i) p n (within i) few) all p few in
        clash (number_of x at.0) p (within at.0) at.2
      where
        within : (i : ℕ) → number_of x i < p
        within i = below (g.plus (times g (i / 3) w) (times g (i % 3) x))

        under : (v p n : ℕ) → v < p → p < n → v < n
        under v p n l h = omega (arith, l, h)

        clash : (v p : ℕ) → v < p → v ≡ p → ⊥
        clash v p l e = omega (arith, l, e)

    pub zero_for_all : (x : G) → times g (8 * r) x ≡ g.identity
    unfolding number_of sum_of
    zero_for_all x =
        ⊎_elim {C = times g (8 * r) x ≡ g.identity} (λ e. tells (times g (8 * r) x) g.identity e)
        (λ some. absurd (too_many x (λ i j l h e. apart x (λ zero. some (ap number zero)) i j l h (tells _ _ e))))
        (cases_eq (number (times g (8 * r) x)) (number g.identity))
