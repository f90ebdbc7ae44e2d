-- Coordinates x that are turned to i x, where i is a square root of -1, by identities.
-- The polynomials are the cofactors of the equations, found by division; the check multiplies them out.
use Rattle.std.proofs.Common.{◌≡◌, ℕ, ◌+◌, ◌*◌, ◌%◌, ◌<◌, List, [], ◌∷◌, refl, sym}
use Rattle.number_facts.specs.Polynomials.{Polynomial, var, lit, plus, times}
use Rattle.number_facts.specs.Congruences.{Step}
use Rattle.number_facts.proofs.Consequences.{follows}

abbrev first_denominator-1 : Polynomial
first_denominator-1 =
    (1, 2 ∷ []) ∷ []

abbrev first_denominator-2 : Polynomial
first_denominator-2 =
    (1, 0 ∷ 0 ∷ 2 ∷ []) ∷ []

abbrev first_denominator-3 : Polynomial
first_denominator-3 =
    (1, 0 ∷ 0 ∷ 0 ∷ 1 ∷ []) ∷ []

abbrev first_denominator-steps : List Step
first_denominator-steps = (
  plus (times (var 1) (var 1)) (var 3),
  times (var 2) (var 2),
  first_denominator-1,
) ∷ (
  plus (times (var 0) (var 0)) (lit 1),
  lit 0,
  first_denominator-2,
) ∷ (
  lit 0,
  plus (times (var 0) (var 0)) (lit 1),
  first_denominator-3,
) ∷ []

-- the first denominator by turned coordinates
pub first_denominator : (m i x y U : ℕ) → 0 < m
    → (x * x + U) % m ≡ (y * y) % m
    → (i * i + 1) % m ≡ (0) % m
    → (U) % m ≡ (i * x * (i * x) + y * y) % m
first_denominator m i x y U pos h1 h2 =
    follows
    (var 3)
    (plus (times (times (var 0) (var 1)) (times (var 0) (var 1))) (times (var 2) (var 2)))
    first_denominator-steps refl m pos (i ∷ x ∷ y ∷ U ∷ [])
    (h1, (h2, (sym h2, tt)))

abbrev turned_away-1 : Polynomial
turned_away-1 =
    (1, 0 ∷ 2 ∷ []) ∷ []

abbrev turned_away-steps : List Step
turned_away-steps = (
  lit 0,
  plus (times (var 0) (var 0)) (lit 1),
  turned_away-1,
) ∷ []

-- the square of a turned coordinate takes the square away
pub turned_away : (m i x y : ℕ) → 0 < m
    → (i * i + 1) % m ≡ (0) % m
    → (y * y + x * x + i * x * (i * x)) % m ≡ (y * y) % m
turned_away m i x y pos h1 =
    follows
    (plus (plus (times (var 2) (var 2)) (times (var 1) (var 1))) (times (times (var 0) (var 1)) (times (var 0) (var
    1))))
    (times (var 2) (var 2))
    turned_away-steps refl m pos (i ∷ x ∷ y ∷ [])
    (sym h1, tt)

abbrev turned_cross-1 : Polynomial
turned_cross-1 =
    (1, 2 ∷ []) ∷ []

abbrev turned_cross-2 : Polynomial
turned_cross-2 =
    (1, []) ∷ []

abbrev turned_cross-3 : Polynomial
turned_cross-3 =
    (1, 0 ∷ 0 ∷ 0 ∷ 0 ∷ 1 ∷ []) ∷ []

abbrev turned_cross-steps : List Step
turned_cross-steps = (
  var 4,
  plus (lit 1) (times (times (times (times (var 3) (var 1)) (var 1)) (var 2)) (var 2)),
  turned_cross-1,
) ∷ (
  plus (times (var 0) (var 0)) (lit 1),
  lit 0,
  turned_cross-2,
) ∷ (
  lit 0,
  plus (times (var 0) (var 0)) (lit 1),
  turned_cross-3,
) ∷ []

-- a turned cross product changes its sign
pub turned_cross : (m i x y d U : ℕ) → 0 < m
    → (1 + d * x * x * y * y) % m ≡ (U) % m
    → (i * i + 1) % m ≡ (0) % m
    → (U + d * (i * x) * (i * x) * y * y) % m ≡ (1) % m
turned_cross m i x y d U pos h1 h2 =
    follows
    (plus (var 4) (times (times (times (times (var 3) (times (var 0) (var 1))) (times (var 0) (var 1))) (var 2)) (var
    2)))
    (lit 1)
    turned_cross-steps refl m pos (i ∷ x ∷ y ∷ d ∷ U ∷ [])
    (sym h1, (h2, (sym h2, tt)))

abbrev turned_product-1 : Polynomial
turned_product-1 =
    (1, 0 ∷ 0 ∷ 0 ∷ 1 ∷ []) ∷ (1, 0 ∷ 1 ∷ 1 ∷ []) ∷ []

abbrev turned_product-2 : Polynomial
turned_product-2 =
    (1, 0 ∷ 0 ∷ 2 ∷ []) ∷ []

abbrev turned_product-steps : List Step
turned_product-steps = (
  var 3,
  plus (var 0) (times (var 1) (var 2)),
  turned_product-1,
) ∷ (
  plus (times (var 1) (var 1)) (lit 1),
  lit 0,
  turned_product-2,
) ∷ []

-- both sums of turned coordinates make the sum of squares
pub turned_product : (m t i x y : ℕ) → 0 < m
    → (t + i * x) % m ≡ (y) % m
    → (i * i + 1) % m ≡ (0) % m
    → ((i * x + y) * t) % m ≡ (y * y + x * x) % m
turned_product m t i x y pos h1 h2 =
    follows
    (times (plus (times (var 1) (var 2)) (var 3)) (var 0))
    (plus (times (var 3) (var 3)) (times (var 2) (var 2)))
    turned_product-steps refl m pos (t ∷ i ∷ x ∷ y ∷ [])
    (sym h1, (h2, tt))

abbrev turned_alike-1 : Polynomial
turned_alike-1 =
    (1, 0 ∷ 0 ∷ 1 ∷ []) ∷ (1, 1 ∷ 1 ∷ []) ∷ []

abbrev turned_alike-2 : Polynomial
turned_alike-2 =
    (1, 0 ∷ 2 ∷ []) ∷ []

abbrev turned_alike-steps : List Step
turned_alike-steps = (
  times (var 0) (var 1),
  var 2,
  turned_alike-1,
) ∷ (
  lit 0,
  plus (times (var 0) (var 0)) (lit 1),
  turned_alike-2,
) ∷ []

-- turned coordinates that are the same make squares that cancel out
pub turned_alike : (m i x y : ℕ) → 0 < m
    → (y) % m ≡ (i * x) % m
    → (i * i + 1) % m ≡ (0) % m
    → (y * y + x * x) % m ≡ (0) % m
turned_alike m i x y pos h1 h2 =
    follows
    (plus (times (var 2) (var 2)) (times (var 1) (var 1)))
    (lit 0)
    turned_alike-steps refl m pos (i ∷ x ∷ y ∷ [])
    (sym h1, (sym h2, tt))

abbrev signs-1 : Polynomial
signs-1 =
    (1, []) ∷ []

abbrev signs-2 : Polynomial
signs-2 =
    (1, 0 ∷ 2 ∷ []) ∷ (1, 1 ∷ 1 ∷ []) ∷ []

abbrev signs-steps : List Step
signs-steps = (
  times (var 1) (var 1),
  times (var 0) (var 0),
  signs-1,
) ∷ (
  lit 0,
  plus (times (var 2) (var 2)) (lit 1),
  signs-2,
) ∷ []

-- numbers of one square are the same but for a sign
pub signs : (m a b i : ℕ) → 0 < m
    → (a * a) % m ≡ (b * b) % m
    → (i * i + 1) % m ≡ (0) % m
    → ((a + i * i * b) * (a + b)) % m ≡ (0) % m
signs m a b i pos h1 h2 =
    follows
    (times (plus (var 0) (times (times (var 2) (var 2)) (var 1))) (plus (var 0) (var 1)))
    (lit 0)
    signs-steps refl m pos (a ∷ b ∷ i ∷ [])
    (sym h1, (sym h2, tt))

abbrev sign_is_fourth-1 : Polynomial
sign_is_fourth-1 =
    (1, []) ∷ []

abbrev sign_is_fourth-2 : Polynomial
sign_is_fourth-2 =
    (1, 0 ∷ 1 ∷ 0 ∷ 1 ∷ []) ∷ (1, 0 ∷ 1 ∷ 2 ∷ []) ∷ []

abbrev sign_is_fourth-3 : Polynomial
sign_is_fourth-3 =
    (1, 0 ∷ 1 ∷ []) ∷ []

abbrev sign_is_fourth-steps : List Step
sign_is_fourth-steps = (
  lit 0,
  plus (var 0) (var 1),
  sign_is_fourth-1,
) ∷ (
  times (var 2) (var 2),
  var 3,
  sign_is_fourth-2,
) ∷ (
  plus (times (var 3) (var 3)) (lit 1),
  lit 0,
  sign_is_fourth-3,
) ∷ []

-- -1 is a fourth power
pub sign_is_fourth : (m a b j i : ℕ) → 0 < m
    → (a + b) % m ≡ (0) % m
    → (j * j) % m ≡ (i) % m
    → (i * i + 1) % m ≡ (0) % m
    → (a) % m ≡ (j * j * (j * j) * b) % m
sign_is_fourth m a b j i pos h1 h2 h3 =
    follows
    (var 0)
    (times (times (times (var 2) (var 2)) (times (var 2) (var 2))) (var 1))
    sign_is_fourth-steps refl m pos (a ∷ b ∷ j ∷ i ∷ [])
    (sym h1, (h2, (h3, tt)))

abbrev sign_is_none-1 : Polynomial
sign_is_none-1 =
    (1, []) ∷ []

abbrev sign_is_none-2 : Polynomial
sign_is_none-2 =
    (1, 0 ∷ 1 ∷ []) ∷ []

abbrev sign_is_none-steps : List Step
sign_is_none-steps = (
  lit 0,
  plus (var 0) (times (times (var 2) (var 2)) (var 1)),
  sign_is_none-1,
) ∷ (
  plus (times (var 2) (var 2)) (lit 1),
  lit 0,
  sign_is_none-2,
) ∷ []

-- the same but for no sign
pub sign_is_none : (m a b i : ℕ) → 0 < m
    → (a + i * i * b) % m ≡ (0) % m
    → (i * i + 1) % m ≡ (0) % m
    → (a) % m ≡ (1 * 1 * (1 * 1) * b) % m
sign_is_none m a b i pos h1 h2 =
    follows
    (var 0)
    (times (times (times (lit 1) (lit 1)) (times (lit 1) (lit 1))) (var 1))
    sign_is_none-steps refl m pos (a ∷ b ∷ i ∷ [])
    (sym h1, (h2, tt))

abbrev two_parted-1 : Polynomial
two_parted-1 =
    (1, []) ∷ []

abbrev two_parted-2 : Polynomial
two_parted-2 =
    (1, 1 ∷ []) ∷ (1, 2 ∷ []) ∷ []

abbrev two_parted-steps : List Step
two_parted-steps = (
  plus (times (var 0) (var 0)) (lit 1),
  lit 0,
  two_parted-1,
) ∷ (
  lit 0,
  plus (times (var 0) (var 0)) (lit 1),
  two_parted-2,
) ∷ []

-- 2 is a product of 1 + i
pub two_parted : (m i : ℕ) → 0 < m
    → (i * i + 1) % m ≡ (0) % m
    → ((1 + i) * (1 + i * i * i)) % m ≡ (2) % m
two_parted m i pos h1 =
    follows
    (times (plus (lit 1) (var 0)) (plus (lit 1) (times (times (var 0) (var 0)) (var 0))))
    (lit 2)
    two_parted-steps refl m pos (i ∷ [])
    (h1, (sym h1, tt))

abbrev turned_more-1 : Polynomial
turned_more-1 =
    (1, []) ∷ (1, 0 ∷ 1 ∷ 1 ∷ []) ∷ []

abbrev turned_more-2 : Polynomial
turned_more-2 =
    (1, 0 ∷ 0 ∷ 2 ∷ []) ∷ []

abbrev turned_more-steps : List Step
turned_more-steps = (
  lit 1,
  plus (var 0) (times (var 1) (var 2)),
  turned_more-1,
) ∷ (
  plus (times (var 1) (var 1)) (lit 1),
  lit 0,
  turned_more-2,
) ∷ []

-- one more than the square is a product of turned coordinates
pub turned_more : (m q i x : ℕ) → 0 < m
    → (q + i * x) % m ≡ (1) % m
    → (i * i + 1) % m ≡ (0) % m
    → ((1 + i * x) * q) % m ≡ (1 + x * x) % m
turned_more m q i x pos h1 h2 =
    follows
    (times (plus (lit 1) (times (var 1) (var 2))) (var 0))
    (plus (lit 1) (times (var 2) (var 2)))
    turned_more-steps refl m pos (q ∷ i ∷ x ∷ [])
    (sym h1, (h2, tt))

abbrev rest_parted-1 : Polynomial
rest_parted-1 =
    (1, []) ∷ []

abbrev rest_parted-2 : Polynomial
rest_parted-2 =
    (1, []) ∷ (1, 0 ∷ 0 ∷ 1 ∷ []) ∷ []

abbrev rest_parted-steps : List Step
rest_parted-steps = (
  plus (var 0) (times (var 2) (var 2)),
  lit 1,
  rest_parted-1,
) ∷ (
  lit 1,
  plus (var 1) (var 2),
  rest_parted-2,
) ∷ []

-- one less the square is a product
pub rest_parted : (m b q y : ℕ) → 0 < m
    → (b + y * y) % m ≡ (1) % m
    → (q + y) % m ≡ (1) % m
    → ((1 + y) * q) % m ≡ (b) % m
rest_parted m b q y pos h1 h2 =
    follows
    (times (plus (lit 1) (var 2)) (var 1))
    (var 0)
    rest_parted-steps refl m pos (b ∷ q ∷ y ∷ [])
    (h1, (sym h2, tt))
