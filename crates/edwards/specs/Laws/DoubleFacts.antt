-- The coordinates of a double, by identities: U and V are its denominators.
-- The polynomials are the cofactors of the equations, found by division; the check multiplies them out.
use Rattle.std.proofs.Common.{◌≡◌, ℕ, ◌+◌, ◌*◌, ◌%◌, ◌<◌, List, [], ◌∷◌, refl, sym}
use Rattle.number_facts.specs.Polynomials.{Polynomial, var, lit, plus, times}
use Rattle.number_facts.specs.Congruences.{Step}
use Rattle.number_facts.proofs.Consequences.{follows}

abbrev double_first-1 : Polynomial
double_first-1 =
    (1, 2 ∷ []) ∷ []

abbrev double_first-2 : Polynomial
double_first-2 =
    (1, 1 ∷ []) ∷ []

abbrev double_first-3 : Polynomial
double_first-3 =
    (1, 0 ∷ 0 ∷ 2 ∷ []) ∷ []

abbrev double_first-4 : Polynomial
double_first-4 =
    (1, 0 ∷ 0 ∷ 0 ∷ 0 ∷ 1 ∷ []) ∷ []

abbrev double_first-steps : List Step
double_first-steps = (
  plus (times (var 1) (var 1)) (var 4),
  times (var 2) (var 2),
  double_first-1,
) ∷ (
  plus (times (var 1) (var 2)) (times (var 2) (var 1)),
  times (var 3) (var 4),
  double_first-2,
) ∷ (
  plus (times (var 0) (var 0)) (lit 1),
  lit 0,
  double_first-3,
) ∷ (
  lit 0,
  plus (times (var 0) (var 0)) (lit 1),
  double_first-4,
) ∷ []

-- one more than the turned first coordinate is a square
pub double_first : (m i x y X U : ℕ) → 0 < m
    → (x * x + U) % m ≡ (y * y) % m
    → (X * U) % m ≡ (x * y + y * x) % m
    → (i * i + 1) % m ≡ (0) % m
    → ((1 + i * X) * U) % m ≡ ((i * x + y) * (i * x + y)) % m
double_first m i x y X U pos h1 h2 h3 =
    follows
    (times (plus (lit 1) (times (var 0) (var 3))) (var 4))
    (times (plus (times (var 0) (var 1)) (var 2)) (plus (times (var 0) (var 1)) (var 2)))
    double_first-steps refl m pos (i ∷ x ∷ y ∷ X ∷ U ∷ [])
    (h1, (sym h2, (h3, (sym h3, tt))))

abbrev double_first_less-1 : Polynomial
double_first_less-1 =
    (1, []) ∷ []

abbrev double_first_less-2 : Polynomial
double_first_less-2 =
    (1, 1 ∷ []) ∷ []

abbrev double_first_less-3 : Polynomial
double_first_less-3 =
    (1, 0 ∷ 0 ∷ 2 ∷ []) ∷ []

abbrev double_first_less-4 : Polynomial
double_first_less-4 =
    (1, 0 ∷ 0 ∷ 0 ∷ 0 ∷ 0 ∷ 0 ∷ 1 ∷ []) ∷ []

abbrev double_first_less-5 : Polynomial
double_first_less-5 =
    (1, 0 ∷ 0 ∷ 0 ∷ 0 ∷ 1 ∷ []) ∷ (1, 0 ∷ 0 ∷ 0 ∷ 1 ∷ []) ∷ []

abbrev double_first_less-6 : Polynomial
double_first_less-6 =
    (1, 1 ∷ 0 ∷ 1 ∷ []) ∷ []

abbrev double_first_less-steps : List Step
double_first_less-steps = (
  times (var 3) (var 3),
  plus (times (var 2) (var 2)) (var 6),
  double_first_less-1,
) ∷ (
  times (var 5) (var 6),
  plus (times (var 2) (var 3)) (times (var 3) (var 2)),
  double_first_less-2,
) ∷ (
  plus (times (var 0) (var 0)) (lit 1),
  lit 0,
  double_first_less-3,
) ∷ (
  lit 1,
  plus (var 1) (times (var 0) (var 5)),
  double_first_less-4,
) ∷ (
  plus (var 4) (times (var 0) (var 2)),
  var 3,
  double_first_less-5,
) ∷ (
  var 3,
  plus (var 4) (times (var 0) (var 2)),
  double_first_less-6,
) ∷ []

-- one less the turned first coordinate is a square
pub double_first_less : (m i q x y z X U : ℕ) → 0 < m
    → (x * x + U) % m ≡ (y * y) % m
    → (X * U) % m ≡ (x * y + y * x) % m
    → (i * i + 1) % m ≡ (0) % m
    → (q + i * X) % m ≡ (1) % m
    → (z + i * x) % m ≡ (y) % m
    → (q * U) % m ≡ (z * z) % m
double_first_less m i q x y z X U pos h1 h2 h3 h4 h5 =
    follows
    (times (var 1) (var 6))
    (times (var 4) (var 4))
    double_first_less-steps refl m pos (i ∷ q ∷ x ∷ y ∷ z ∷ X ∷ U ∷ [])
    (sym h1, (h2, (h3, (sym h4, (h5, (sym h5, tt))))))

abbrev double_second-1 : Polynomial
double_second-1 =
    (1, []) ∷ []

abbrev double_second-2 : Polynomial
double_second-2 =
    (1, []) ∷ []

abbrev double_second-3 : Polynomial
double_second-3 =
    (1, []) ∷ []

abbrev double_second-steps : List Step
double_second-steps = (
  plus (times (var 0) (var 0)) (var 3),
  times (var 1) (var 1),
  double_second-1,
) ∷ (
  plus (times (var 1) (var 1)) (times (var 0) (var 0)),
  times (var 2) (var 4),
  double_second-2,
) ∷ (
  lit 2,
  plus (var 3) (var 4),
  double_second-3,
) ∷ []

-- one more than the second coordinate is twice one more than the square of the first one of the half
pub double_second : (m x y Y U V : ℕ) → 0 < m
    → (x * x + U) % m ≡ (y * y) % m
    → (Y * V) % m ≡ (y * y + x * x) % m
    → (U + V) % m ≡ (2) % m
    → ((1 + Y) * V) % m ≡ (2 * (1 + x * x)) % m
double_second m x y Y U V pos h1 h2 h3 =
    follows
    (times (plus (lit 1) (var 2)) (var 4))
    (times (lit 2) (plus (lit 1) (times (var 0) (var 0))))
    double_second-steps refl m pos (x ∷ y ∷ Y ∷ U ∷ V ∷ [])
    (h1, (sym h2, (sym h3, tt)))

abbrev double_rest-1 : Polynomial
double_rest-1 =
    (1, 0 ∷ 0 ∷ 0 ∷ 2 ∷ []) ∷ []

abbrev double_rest-2 : Polynomial
double_rest-2 =
    (1, 0 ∷ 0 ∷ 0 ∷ 0 ∷ 0 ∷ 0 ∷ 0 ∷ 1 ∷ []) ∷ (1, 0 ∷ 0 ∷ 0 ∷ 0 ∷ 2 ∷ []) ∷ []

abbrev double_rest-3 : Polynomial
double_rest-3 =
    (1, 0 ∷ 0 ∷ 0 ∷ 0 ∷ 0 ∷ 0 ∷ 1 ∷ 0 ∷ 1 ∷ []) ∷ (1, 0 ∷ 0 ∷ 0 ∷ 0 ∷ 2 ∷ []) ∷ (1, 0 ∷ 0 ∷ 0 ∷ 2 ∷ []) ∷ []

abbrev double_rest-4 : Polynomial
double_rest-4 =
    (1, 0 ∷ 0 ∷ 0 ∷ 0 ∷ 0 ∷ 0 ∷ 0 ∷ 1 ∷ []) ∷ []

abbrev double_rest-5 : Polynomial
double_rest-5 =
    (2, []) ∷ (1, 0 ∷ 0 ∷ 0 ∷ 0 ∷ 0 ∷ 0 ∷ 0 ∷ 0 ∷ 1 ∷ []) ∷ []

abbrev double_rest-6 : Polynomial
double_rest-6 =
    (4, 0 ∷ 2 ∷ 0 ∷ 2 ∷ 2 ∷ []) ∷ []

abbrev double_rest-7 : Polynomial
double_rest-7 =
    (4, 0 ∷ 0 ∷ 0 ∷ 2 ∷ 2 ∷ []) ∷ []

abbrev double_rest-8 : Polynomial
double_rest-8 =
    (4, []) ∷ []

abbrev double_rest-9 : Polynomial
double_rest-9 =
    (1, 0 ∷ 0 ∷ 0 ∷ 0 ∷ 0 ∷ 0 ∷ 0 ∷ 0 ∷ 2 ∷ []) ∷ []

abbrev double_rest-steps : List Step
double_rest-steps = (
  plus (times (var 3) (var 3)) (var 7),
  times (var 4) (var 4),
  double_rest-1,
) ∷ (
  times (var 4) (var 4),
  plus (times (var 3) (var 3)) (var 7),
  double_rest-2,
) ∷ (
  times (var 6) (var 8),
  plus (times (var 4) (var 4)) (times (var 3) (var 3)),
  double_rest-3,
) ∷ (
  plus (var 7) (var 8),
  lit 2,
  double_rest-4,
) ∷ (
  lit 2,
  plus (var 7) (var 8),
  double_rest-5,
) ∷ (
  plus (times (var 0) (var 0)) (lit 1),
  lit 0,
  double_rest-6,
) ∷ (
  plus (lit 1) (var 5),
  times (var 1) (var 1),
  double_rest-7,
) ∷ (
  var 7,
  plus (lit 1) (times (times (times (times (var 5) (var 3)) (var 3)) (var 4)) (var 4)),
  double_rest-8,
) ∷ (
  lit 1,
  plus (var 2) (times (var 6) (var 6)),
  double_rest-9,
) ∷ []

-- one less the square of the second coordinate is a square
pub double_rest : (m i s b x y d Y U V : ℕ) → 0 < m
    → (x * x + U) % m ≡ (y * y) % m
    → (Y * V) % m ≡ (y * y + x * x) % m
    → (U + V) % m ≡ (2) % m
    → (i * i + 1) % m ≡ (0) % m
    → (s * s) % m ≡ (1 + d) % m
    → (1 + d * x * x * y * y) % m ≡ (U) % m
    → (b + Y * Y) % m ≡ (1) % m
    → (b * (V * V)) % m ≡ (2 * (s * (i * x * y)) * (2 * (s * (i * x * y)))) % m
double_rest m i s b x y d Y U V pos h1 h2 h3 h4 h5 h6 h7 =
    follows
    (times (var 2) (times (var 8) (var 8)))
    (times (times (lit 2) (times (var 1) (times (times (var 0) (var 3)) (var 4)))) (times (lit 2) (times (var 1)
    (times (times (var 0) (var 3)) (var 4)))))
    double_rest-steps refl m pos (i ∷ s ∷ b ∷ x ∷ y ∷ d ∷ Y ∷ U ∷ V ∷ [])
    (h1, (sym h1, (h2, (h3, (sym h3, (h4, (sym h5, (sym h6, (sym h7, tt)))))))))

abbrev double_square-1 : Polynomial
double_square-1 =
    (1, 2 ∷ []) ∷ []

abbrev double_square-2 : Polynomial
double_square-2 =
    (1, 0 ∷ 0 ∷ 0 ∷ 1 ∷ []) ∷ (1, 0 ∷ 2 ∷ []) ∷ []

abbrev double_square-3 : Polynomial
double_square-3 =
    (1, 0 ∷ 0 ∷ 1 ∷ 1 ∷ []) ∷ (2, 1 ∷ 1 ∷ []) ∷ []

abbrev double_square-steps : List Step
double_square-steps = (
  plus (times (var 0) (var 0)) (var 3),
  times (var 1) (var 1),
  double_square-1,
) ∷ (
  times (var 1) (var 1),
  plus (times (var 0) (var 0)) (var 3),
  double_square-2,
) ∷ (
  plus (times (var 0) (var 1)) (times (var 1) (var 0)),
  times (var 2) (var 3),
  double_square-3,
) ∷ []

-- one more than the square of the first coordinate is a square
pub double_square : (m x y X U : ℕ) → 0 < m
    → (x * x + U) % m ≡ (y * y) % m
    → (X * U) % m ≡ (x * y + y * x) % m
    → ((1 + X * X) * (U * U)) % m ≡ ((y * y + x * x) * (y * y + x * x)) % m
double_square m x y X U pos h1 h2 =
    follows
    (times (plus (lit 1) (times (var 2) (var 2))) (times (var 3) (var 3)))
    (times (plus (times (var 1) (var 1)) (times (var 0) (var 0))) (plus (times (var 1) (var 1)) (times (var 0) (var
    0))))
    double_square-steps refl m pos (x ∷ y ∷ X ∷ U ∷ [])
    (h1, (sym h1, (sym h2, tt)))

abbrev parts-1 : Polynomial
parts-1 =
    (1, []) ∷ []

abbrev parts-2 : Polynomial
parts-2 =
    (1, 0 ∷ 2 ∷ 0 ∷ 2 ∷ 2 ∷ []) ∷ []

abbrev parts-3 : Polynomial
parts-3 =
    (1, 0 ∷ 0 ∷ 0 ∷ 2 ∷ 2 ∷ []) ∷ []

abbrev parts-4 : Polynomial
parts-4 =
    (1, []) ∷ (1, 0 ∷ 0 ∷ 0 ∷ 2 ∷ []) ∷ []

abbrev parts-steps : List Step
parts-steps = (
  times (var 4) (var 4),
  plus (plus (times (var 3) (var 3)) (lit 1)) (times (times (times (times (var 5) (var 3)) (var 3)) (var 4)) (var 4)),
  parts-1,
) ∷ (
  plus (times (var 0) (var 0)) (lit 1),
  lit 0,
  parts-2,
) ∷ (
  plus (lit 1) (var 5),
  times (var 1) (var 1),
  parts-3,
) ∷ (
  lit 1,
  plus (var 2) (times (var 4) (var 4)),
  parts-4,
) ∷ []

-- of a point: one more than the square of the first coordinate, and one less that of the second, make a square
pub parts : (m i s b x y d : ℕ) → 0 < m
    → (x * x + 1 + d * x * x * y * y) % m ≡ (y * y) % m
    → (i * i + 1) % m ≡ (0) % m
    → (s * s) % m ≡ (1 + d) % m
    → (b + y * y) % m ≡ (1) % m
    → ((1 + x * x) * b) % m ≡ (s * (i * x * y) * (s * (i * x * y))) % m
parts m i s b x y d pos h1 h2 h3 h4 =
    follows
    (times (plus (lit 1) (times (var 3) (var 3))) (var 2))
    (times (times (var 1) (times (times (var 0) (var 3)) (var 4))) (times (var 1) (times (times (var 0) (var 3)) (var
    4))))
    parts-steps refl m pos (i ∷ s ∷ b ∷ x ∷ y ∷ d ∷ [])
    (sym h1, (h2, (sym h3, (sym h4, tt))))
