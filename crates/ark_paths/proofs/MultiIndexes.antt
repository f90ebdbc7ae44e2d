-- Numbers, each of them once, rising.
use Rattle.std.proofs.Common.{◌≡◌, ◌⊎◌, ◌↔◌, ℕ, zero, suc, ◌+◌, ◌<◌, true, false, ltb, eqb, List, [], ◌∷◌, length, get_or, inl, inr, refl, ap, sym, ◌∙◌, arith}
use Rattle.std.specs.List.{All, AllPairs, Contains}
use Rattle.std.specs.List.Sorted.{IsStrictlyIncreasing}
use Rattle.std.proofs.lemmas.Bool.{cases_lt, lt-ltb, le-ltb, eq-eqb, ne_eqb}
use Rattle.std.proofs.lemmas.List.Elements.{All-contains, All-from_get_or, Contains-get_or}
use Rattle.std.proofs.lemmas.List.Kept.{AllPairs-from_increasing}
use Rattle.ark_paths.specs.Rising.{with_number, rising_set}

-- ---- elements and order by recursion

abbrev IsAmong : ℕ → List ℕ → Type 0
IsAmong n [] = ⊥
IsAmong n (x ∷ xs) = (n ≡ x) ⊎ IsAmong n xs

abbrev AreAbove : ℕ → List ℕ → Type 0
AreAbove n [] = Unit {0}
AreAbove n (x ∷ xs) = (n < x) × AreAbove n xs

abbrev Rise : List ℕ → Type 0
Rise [] = Unit {0}
Rise (x ∷ xs) = AreAbove x xs × Rise xs

IsAmong-at : (xs : List ℕ) (i n : ℕ) → i < length xs → get_or xs i n ≡ n → IsAmong n xs
IsAmong-at [] i n below is = absurd (omega arith)
IsAmong-at (x ∷ xs) zero n below is = inl (sym is)
IsAmong-at (x ∷ xs) (suc i) n below is = inr (IsAmong-at xs i n (omega arith) is)

Contains-among : (xs : List ℕ) (n : ℕ) → IsAmong n xs → Contains xs n
Contains-among [] n none = elim none [ ]
Contains-among (x ∷ xs) n (inl same) = (0, omega arith, sym same)
Contains-among (x ∷ xs) n (inr more) = let c = Contains-among xs n more in (suc c.0, omega (arith, c.1), c.2)

IsAmong-contained : (xs : List ℕ) (n : ℕ) → Contains xs n → IsAmong n xs
IsAmong-contained xs n c = IsAmong-at xs c.0 n c.1 c.2

AreAbove-among : (n : ℕ) (xs : List ℕ) (k : ℕ) → AreAbove n xs → IsAmong k xs → n < k
AreAbove-among n [] k above none = elim none [ ]
AreAbove-among n (x ∷ xs) k above (inl same) = rw same above.0
AreAbove-among n (x ∷ xs) k above (inr more) = AreAbove-among n xs k above.1 more

AreAbove-by : (n : ℕ) (xs : List ℕ) → ((k : ℕ) → IsAmong k xs → n < k) → AreAbove n xs
AreAbove-by n [] h = tt
AreAbove-by n (x ∷ xs) h = (h x (inl refl), AreAbove-by n xs (λ k more. h k (inr more)))

-- two lists that rise and have the same elements are the same
Rise-unique : (xs ys : List ℕ) → Rise xs → Rise ys → ((k : ℕ) → IsAmong k xs → IsAmong k ys) → ((k : ℕ) → IsAmong k ys
    → IsAmong k xs) → xs ≡ ys
Rise-unique [] [] r s to from = refl
Rise-unique [] (y ∷ ys) r s to from = absurd (from y (inl refl))
Rise-unique (x ∷ xs) [] r s to from = absurd (to x (inl refl))
Rise-unique (x ∷ xs) (y ∷ ys) r s to from =
    let same : x ≡ y = first (to x (inl refl)) (from y (inl refl)) in
    let others : xs ≡ ys = Rise-unique xs ys r.1 s.1 (λ k more. behind x y ys k same (AreAbove-among x xs k r.0 more)
    (to k (inr more))) (λ k more. behind y x xs k (sym same) (AreAbove-among y ys k s.0 more)
    (from k (inr more))) in
    ap (λ (n : ℕ). n ∷ xs) same ∙ ap (λ (ns : List ℕ). y ∷ ns) others
  where
    first : IsAmong x (y ∷ ys) → IsAmong y (x ∷ xs) → x ≡ y
    first (inl same) h = same
    first (inr g) (inl same) = sym same
    first (inr g) (inr h) = let a = AreAbove-among y ys x s.0 g in let b =
        AreAbove-among x xs y r.0 h in absurd (omega arith)

    behind : (x y : ℕ) (ys : List ℕ) (k : ℕ) → x ≡ y → x < k → IsAmong k (y ∷ ys) → IsAmong k ys
    behind x y ys k same above (inl is) = absurd (omega arith)
    behind x y ys k same above (inr more) = more

-- ---- between the two forms of order

Rise-pairs : (xs : List ℕ) → AllPairs (λ x y. x < y) xs → Rise xs
Rise-pairs [] h = tt
Rise-pairs (x ∷ xs) h = (
  AreAbove-by x xs (λ k more. let c = Contains-among xs k more in let lt = h 0 (suc c.0) k (omega arith)
      (omega (arith, c.1)) in rw (c.2) at lt),
  Rise-pairs xs (λ i j d lt below. h (suc i) (suc j) d (omega arith)
      (omega arith)),
)

Rise-increasing : (xs : List ℕ) → IsStrictlyIncreasing xs → Rise xs
Rise-increasing xs h = Rise-pairs xs (AllPairs-from_increasing xs h)

IsStrictlyIncreasing-rise : (xs : List ℕ) → Rise xs → IsStrictlyIncreasing xs
IsStrictlyIncreasing-rise [] r k below = absurd (omega arith)
IsStrictlyIncreasing-rise (x ∷ []) r k below = absurd (omega arith)
IsStrictlyIncreasing-rise (x ∷ y ∷ xs) r zero below = r.0.0
IsStrictlyIncreasing-rise (x ∷ y ∷ xs) r (suc k) below = let next : suc k + 1 ≡ suc (k + 1) =
    omega arith in rw next (IsStrictlyIncreasing-rise (y ∷ xs) r.1 k (omega arith))

-- ---- a number at its place

pub trichotomy : (n x : ℕ) → (n < x) ⊎ ((n ≡ x) ⊎ (x < n))
trichotomy n x = elim (cases_lt n x) [
  | inl lt ↦ inl lt
  | inr ge ↦ elim (cases_lt x n) [
    | inl gt ↦ inr (inr gt)
    | inr le ↦
        inr (inl (omega arith))
  ]
]

module _ (n x : ℕ) (xs : List ℕ) where
  pub placed-below : n < x → with_number n (x ∷ xs) ≡ n ∷ x ∷ xs
  placed-below lt = let e : ltb n x ≡ true = lt-ltb _ _ lt in rw e refl

  pub placed-same : n ≡ x → with_number n (x ∷ xs) ≡ x ∷ xs
  placed-same same = let no : ltb n x ≡ false = le-ltb _ _ (omega arith) in let e : eqb n x ≡ true =
      eq-eqb n x same in rw (no, e) refl

  pub placed-past : x < n → with_number n (x ∷ xs) ≡ x ∷ with_number n xs
  placed-past gt = let no : ltb n x ≡ false = le-ltb _ _ (omega arith) in let other : eqb n x ≡ false =
      ne_eqb n x (λ same. omega arith) in rw (no, other) refl

module _ (n : ℕ) where
  placed-holds : (xs : List ℕ) (k : ℕ) → (k ≡ n) ⊎ IsAmong k xs → IsAmong k (with_number n xs)
  placed-holds [] k h = h
  placed-holds (x ∷ xs) k h =
      elim (trichotomy n x) [
        | inl lt ↦ rw (placed-below n x xs lt) h
        | inr (inl same) ↦ rw (placed-same n x xs same) (elim h [ inl is ↦ inl (is ∙ same) | inr more ↦ more ])
        | inr (inr gt) ↦ rw (placed-past n x xs gt) (elim h [
          | inl is ↦ inr (placed-holds xs k (inl is))
          | inr (inl first) ↦ inl first
          | inr (inr more) ↦ inr (placed-holds xs k (inr more))
        ])
      ]

  placed-adds : (xs : List ℕ) (k : ℕ) → IsAmong k (with_number n xs) → (k ≡ n) ⊎ IsAmong k xs
  placed-adds [] k h = h
  placed-adds (x ∷ xs) k h =
      elim (trichotomy n x) [
        | inl lt ↦ (rw (placed-below n x xs lt) at h)
        | inr (inl same) ↦ inr (rw (placed-same n x xs same) at h)
        | inr (inr gt) ↦ elim (rw (placed-past n x xs gt) at h) [
          | inl first ↦ inr (inl first)
          | inr more ↦ elim (placed-adds xs k more) [ inl is ↦ inl is | inr old ↦ inr (inr old) ]
        ]
      ]

  placed-rises : (xs : List ℕ) → Rise xs → Rise (with_number n xs)
  placed-rises [] r = (tt, tt)
  placed-rises (x ∷ xs) r =
      elim (trichotomy n x) [
        | inl lt ↦ rw (placed-below n x xs lt) (
          (lt, AreAbove-by n xs (λ k more. let above = AreAbove-among x xs k r.0 more in omega arith)),
          r,
        )
        | inr (inl same) ↦ rw (placed-same n x xs same) r
        | inr (inr gt) ↦ rw (placed-past n x xs gt) (
          AreAbove-by x (with_number n xs) (λ k more. elim (placed-adds xs k more) [
            | inl is ↦ omega arith
            | inr old ↦ AreAbove-among x xs k r.0 old
          ]),
          placed-rises xs r.1,
        )
      ]

rising-rises : (xs : List ℕ) → Rise (rising_set xs)
rising-rises [] = tt
rising-rises (x ∷ xs) = placed-rises x (rising_set xs) (rising-rises xs)

rising-holds : (xs : List ℕ) (k : ℕ) → IsAmong k xs → IsAmong k (rising_set xs)
rising-holds [] k none = none
rising-holds (x ∷ xs) k (inl is) = placed-holds x (rising_set xs) k (inl is)
rising-holds (x ∷ xs) k (inr more) = placed-holds x (rising_set xs) k (inr (rising-holds xs k more))

rising-adds : (xs : List ℕ) (k : ℕ) → IsAmong k (rising_set xs) → IsAmong k xs
rising-adds [] k h = h
rising-adds (x ∷ xs) k h = elim (placed-adds x (rising_set xs) k h) [
  | inl is ↦ inl is
  | inr more ↦ inr
      (rising-adds xs k more)
]

-- ---- what callers need

pub rising-increases : (xs : List ℕ) → IsStrictlyIncreasing (rising_set xs)
rising-increases xs = IsStrictlyIncreasing-rise (rising_set xs) (rising-rises xs)

pub rising-elements : (xs : List ℕ) (n : ℕ) → Contains (rising_set xs) n ↔ Contains xs n
rising-elements xs n = (
  λ h. Contains-among xs n (rising-adds xs n (IsAmong-contained (rising_set xs) n h)),
  λ h.
      Contains-among (rising_set xs) n (rising-holds xs n (IsAmong-contained xs n h)),
)

pub rising-unique : (xs ys : List ℕ) → IsStrictlyIncreasing ys → ((n : ℕ) → Contains xs n → Contains ys n)
    → ((n : ℕ) → Contains ys n → Contains xs n) → rising_set xs ≡ ys
rising-unique xs ys increases keeps adds_none =
    Rise-unique (rising_set xs) ys (rising-rises xs) (Rise-increasing ys increases) (λ k h. IsAmong-contained ys k
    (keeps k (Contains-among xs k (rising-adds xs k h)))) (λ k h. rising-holds xs k (IsAmong-contained xs k
    (adds_none k (Contains-among ys k h))))

pub All-rising : (P : ℕ → Type 0) (xs : List ℕ) → All P xs → All P (rising_set xs)
All-rising P xs h = All-from_get_or P (rising_set xs) 0 (λ i below. All-contains P xs (get_or (rising_set xs) i 0) h
    ((rising-elements xs (get_or (rising_set xs) i 0)).0 (Contains-get_or (rising_set xs) i 0 below)))

pub rising-some : (xs : List ℕ) → 0 < length xs → 0 < length (rising_set xs)
rising-some [] some = absurd (omega arith)
rising-some (x ∷ xs) some = let c = Contains-among (rising_set (x ∷ xs)) x (rising-holds (x ∷ xs) x (inl refl)) in
    omega (arith, c.1)
