-- A half of a point (X, Y), by identities: e is a square root of 1 + X^2, and g is Y / (Y + e).
-- The polynomials are the cofactors of the equations, found by division; the check multiplies them out.
use Rattle.std.proofs.Common.{◌≡◌, ℕ, ◌+◌, ◌*◌, ◌%◌, ◌<◌, List, [], ◌∷◌, refl, sym}
use Rattle.number_facts.specs.Polynomials.{Polynomial, var, lit, plus, times}
use Rattle.number_facts.specs.Congruences.{Step}
use Rattle.number_facts.proofs.Consequences.{follows}

abbrev half_first-1 : Polynomial
half_first-1 =
    (1, 0 ∷ 0 ∷ 0 ∷ 1 ∷ 1 ∷ []) ∷ []

abbrev half_first-2 : Polynomial
half_first-2 =
    (1, 0 ∷ 0 ∷ 0 ∷ 0 ∷ 1 ∷ []) ∷ []

abbrev half_first-3 : Polynomial
half_first-3 =
    (1, 0 ∷ 0 ∷ 1 ∷ 0 ∷ 1 ∷ []) ∷ (1, 1 ∷ 1 ∷ []) ∷ []

abbrev half_first-4 : Polynomial
half_first-4 =
    (1, 0 ∷ 0 ∷ 0 ∷ 0 ∷ 2 ∷ []) ∷ []

abbrev half_first-steps : List Step
half_first-steps = (
  times (var 1) (var 1),
  times (var 4) (plus (lit 1) (var 3)),
  half_first-1,
) ∷ (
  times (var 4) (plus (lit 1) (var 3)),
  times (var 1) (var 1),
  half_first-2,
) ∷ (
  times (var 2) (var 4),
  times (var 0) (var 1),
  half_first-3,
) ∷ (
  times (var 3) (var 3),
  plus (lit 1) (times (var 2) (var 2)),
  half_first-4,
) ∷ []

-- the first coordinate of the half, squared
pub half_first : (m x y X e g : ℕ) → 0 < m
    → (y * y) % m ≡ (g * (1 + e)) % m
    → (x * y) % m ≡ (X * g) % m
    → (e * e) % m ≡ (1 + X * X) % m
    → ((x * x + g) * (y * y)) % m ≡ (e * g * (y * y)) % m
half_first m x y X e g pos h1 h2 h3 =
    follows
    (times (plus (times (var 0) (var 0)) (var 4)) (times (var 1) (var 1)))
    (times (times (var 3) (var 4)) (times (var 1) (var 1)))
    half_first-steps refl m pos (x ∷ y ∷ X ∷ e ∷ g ∷ [])
    (h1, (sym h1, (sym h2, (h3, tt))))

abbrev half_spread-1 : Polynomial
half_spread-1 =
    (2, 1 ∷ []) ∷ []

abbrev half_spread-2 : Polynomial
half_spread-2 =
    (1, 0 ∷ 0 ∷ 1 ∷ 2 ∷ 1 ∷ []) ∷ (1, 1 ∷ 1 ∷ 1 ∷ 2 ∷ []) ∷ []

abbrev half_spread-3 : Polynomial
half_spread-3 =
    (1, 0 ∷ 0 ∷ 0 ∷ 0 ∷ 1 ∷ []) ∷ []

abbrev half_spread-4 : Polynomial
half_spread-4 =
    (1, 0 ∷ 0 ∷ 0 ∷ 0 ∷ 0 ∷ 1 ∷ []) ∷ (1, 1 ∷ []) ∷ []

abbrev half_spread-5 : Polynomial
half_spread-5 =
    (1, []) ∷ []

abbrev half_spread-6 : Polynomial
half_spread-6 =
    (1, []) ∷ []

abbrev half_spread-steps : List Step
half_spread-steps = (
  times (var 1) (var 0),
  var 4,
  half_spread-1,
) ∷ (
  var 4,
  times (var 1) (var 0),
  half_spread-2,
) ∷ (
  var 0,
  plus (var 4) (var 5),
  half_spread-3,
) ∷ (
  plus (var 4) (var 5),
  var 0,
  half_spread-4,
) ∷ (
  plus (lit 1) (times (var 3) (var 3)),
  times (var 5) (var 5),
  half_spread-5,
) ∷ (
  times (var 4) (var 4),
  plus (plus (times (var 3) (var 3)) (lit 1)) (times (times (times (times (var 2) (var 3)) (var 3)) (var 4)) (var 4)),
  half_spread-6,
) ∷ []

-- what the first denominator is, cleared
pub half_spread : (m T g d X Y e : ℕ) → 0 < m
    → (g * T) % m ≡ (Y) % m
    → (T) % m ≡ (Y + e) % m
    → (e * e) % m ≡ (1 + X * X) % m
    → (X * X + 1 + d * X * X * Y * Y) % m ≡ (Y * Y) % m
    → ((1 + d * X * X * (g * g)) * (T * T)) % m ≡ (2 * g * (T * T)) % m
half_spread m T g d X Y e pos h1 h2 h3 h4 =
    follows
    (times (plus (lit 1) (times (times (times (var 2) (var 3)) (var 3)) (times (var 1) (var 1)))) (times (var 0) (var
    0)))
    (times (times (lit 2) (var 1)) (times (var 0) (var 0)))
    half_spread-steps refl m pos (T ∷ g ∷ d ∷ X ∷ Y ∷ e ∷ [])
    (h1, (sym h1, (h2, (sym h2, (sym h3, (sym h4, tt))))))

abbrev half_on_curve-1 : Polynomial
half_on_curve-1 =
    (1, []) ∷ []

abbrev half_on_curve-2 : Polynomial
half_on_curve-2 =
    (1, []) ∷ []

abbrev half_on_curve-3 : Polynomial
half_on_curve-3 =
    (1, 0 ∷ 0 ∷ 1 ∷ 1 ∷ 0 ∷ 1 ∷ []) ∷ (1, 1 ∷ 1 ∷ 1 ∷ []) ∷ []

abbrev half_on_curve-4 : Polynomial
half_on_curve-4 =
    (1, []) ∷ []

abbrev half_on_curve-steps : List Step
half_on_curve-steps = (
  times (var 4) (var 5),
  plus (times (var 0) (var 0)) (var 5),
  half_on_curve-1,
) ∷ (
  times (var 1) (var 1),
  times (var 5) (plus (lit 1) (var 4)),
  half_on_curve-2,
) ∷ (
  times (var 3) (var 5),
  times (var 0) (var 1),
  half_on_curve-3,
) ∷ (
  times (lit 2) (var 5),
  plus (lit 1) (times (times (times (var 2) (var 3)) (var 3)) (times (var 5) (var 5))),
  half_on_curve-4,
) ∷ []

-- the half is on the curve
pub half_on_curve : (m x y d X e g : ℕ) → 0 < m
    → (x * x + g) % m ≡ (e * g) % m
    → (y * y) % m ≡ (g * (1 + e)) % m
    → (x * y) % m ≡ (X * g) % m
    → (1 + d * X * X * (g * g)) % m ≡ (2 * g) % m
    → (x * x + 1 + d * x * x * y * y) % m ≡ (y * y) % m
half_on_curve m x y d X e g pos h1 h2 h3 h4 =
    follows
    (plus (plus (times (var 0) (var 0)) (lit 1)) (times (times (times (times (var 2) (var 0)) (var 0)) (var 1)) (var
    1)))
    (times (var 1) (var 1))
    half_on_curve-steps refl m pos (x ∷ y ∷ d ∷ X ∷ e ∷ g ∷ [])
    (sym h1, (h2, (sym h3, (sym h4, tt))))

abbrev half_gives_x-1 : Polynomial
half_gives_x-1 =
    (2, []) ∷ []

abbrev half_gives_x-2 : Polynomial
half_gives_x-2 =
    (1, 0 ∷ 0 ∷ 1 ∷ 2 ∷ 1 ∷ []) ∷ (1, 1 ∷ 1 ∷ 1 ∷ 1 ∷ []) ∷ []

abbrev half_gives_x-3 : Polynomial
half_gives_x-3 =
    (1, 0 ∷ 0 ∷ 0 ∷ 1 ∷ []) ∷ []

abbrev half_gives_x-steps : List Step
half_gives_x-steps = (
  times (var 0) (var 1),
  times (var 3) (var 4),
  half_gives_x-1,
) ∷ (
  times (var 3) (var 4),
  times (var 0) (var 1),
  half_gives_x-2,
) ∷ (
  times (lit 2) (var 4),
  plus (lit 1) (times (times (times (var 2) (var 3)) (var 3)) (times (var 4) (var 4))),
  half_gives_x-3,
) ∷ []

-- twice the half has the first coordinate
pub half_gives_x : (m x y d X g : ℕ) → 0 < m
    → (x * y) % m ≡ (X * g) % m
    → (1 + d * X * X * (g * g)) % m ≡ (2 * g) % m
    → (X * (1 + d * x * x * y * y)) % m ≡ (x * y + y * x) % m
half_gives_x m x y d X g pos h1 h2 =
    follows
    (times (var 3) (plus (lit 1) (times (times (times (times (var 2) (var 0)) (var 0)) (var 1)) (var 1))))
    (plus (times (var 0) (var 1)) (times (var 1) (var 0)))
    half_gives_x-steps refl m pos (x ∷ y ∷ d ∷ X ∷ g ∷ [])
    (h1, (sym h1, (sym h2, tt)))

abbrev half_gives_y-1 : Polynomial
half_gives_y-1 =
    (1, 0 ∷ 0 ∷ 0 ∷ 0 ∷ 0 ∷ 0 ∷ 1 ∷ []) ∷ []

abbrev half_gives_y-2 : Polynomial
half_gives_y-2 =
    (1, 0 ∷ 0 ∷ 0 ∷ 1 ∷ 1 ∷ 1 ∷ 1 ∷ []) ∷ (1, 0 ∷ 1 ∷ 1 ∷ 1 ∷ 0 ∷ 0 ∷ 1 ∷ []) ∷ []

abbrev half_gives_y-3 : Polynomial
half_gives_y-3 =
    (1, 0 ∷ 0 ∷ 0 ∷ 0 ∷ 0 ∷ 0 ∷ 1 ∷ []) ∷ []

abbrev half_gives_y-4 : Polynomial
half_gives_y-4 =
    (1, []) ∷ []

abbrev half_gives_y-5 : Polynomial
half_gives_y-5 =
    (1, []) ∷ []

abbrev half_gives_y-6 : Polynomial
half_gives_y-6 =
    (2, []) ∷ []

abbrev half_gives_y-steps : List Step
half_gives_y-steps = (
  lit 1,
  plus (var 0) (times (times (times (times (var 3) (var 1)) (var 1)) (var 2)) (var 2)),
  half_gives_y-1,
) ∷ (
  times (var 1) (var 2),
  times (var 4) (var 5),
  half_gives_y-2,
) ∷ (
  plus (lit 1) (times (times (times (var 3) (var 4)) (var 4)) (times (var 5) (var 5))),
  times (lit 2) (var 5),
  half_gives_y-3,
) ∷ (
  plus (times (var 1) (var 1)) (var 5),
  times (var 7) (var 5),
  half_gives_y-4,
) ∷ (
  times (var 2) (var 2),
  times (var 5) (plus (lit 1) (var 7)),
  half_gives_y-5,
) ∷ (
  times (var 5) (plus (var 6) (var 7)),
  var 6,
  half_gives_y-6,
) ∷ []

-- and the second one
pub half_gives_y : (m v x y d X g Y e : ℕ) → 0 < m
    → (v + d * x * x * y * y) % m ≡ (1) % m
    → (x * y) % m ≡ (X * g) % m
    → (1 + d * X * X * (g * g)) % m ≡ (2 * g) % m
    → (x * x + g) % m ≡ (e * g) % m
    → (y * y) % m ≡ (g * (1 + e)) % m
    → (g * (Y + e)) % m ≡ (Y) % m
    → (Y * v) % m ≡ (y * y + x * x) % m
half_gives_y m v x y d X g Y e pos h1 h2 h3 h4 h5 h6 =
    follows
    (times (var 6) (var 0))
    (plus (times (var 2) (var 2)) (times (var 1) (var 1)))
    half_gives_y-steps refl m pos (v ∷ x ∷ y ∷ d ∷ X ∷ g ∷ Y ∷ e ∷ [])
    (sym h1, (h2, (h3, (h4, (h5, (h6, tt))))))

abbrev halves_apart-1 : Polynomial
halves_apart-1 =
    (1, 1 ∷ 0 ∷ 1 ∷ 0 ∷ 0 ∷ 1 ∷ []) ∷ (1, 1 ∷ 0 ∷ 1 ∷ 0 ∷ 0 ∷ 1 ∷ 1 ∷ []) ∷ (1, 1 ∷ 0 ∷ 1 ∷ 1 ∷ 0 ∷ 1 ∷ []) ∷
    (1, 1 ∷ 0 ∷ 1 ∷ 1 ∷ 0 ∷ 1 ∷ 1 ∷ []) ∷ []

abbrev halves_apart-2 : Polynomial
halves_apart-2 =
    (1, 1 ∷ 0 ∷ 0 ∷ 0 ∷ 0 ∷ 0 ∷ 0 ∷ 0 ∷ 1 ∷ []) ∷ (1, 1 ∷ 0 ∷ 0 ∷ 0 ∷ 0 ∷ 0 ∷ 1 ∷ 0 ∷ 1 ∷ []) ∷
    (1, 1 ∷ 0 ∷ 0 ∷ 1 ∷ 0 ∷ 0 ∷ 0 ∷ 0 ∷ 1 ∷ []) ∷ (1, 1 ∷ 0 ∷ 0 ∷ 1 ∷ 0 ∷ 0 ∷ 1 ∷ 0 ∷ 1 ∷ []) ∷ []

abbrev halves_apart-3 : Polynomial
halves_apart-3 =
    (1, 0 ∷ 0 ∷ 0 ∷ 0 ∷ 0 ∷ 1 ∷ 0 ∷ 0 ∷ 0 ∷ 2 ∷ []) ∷ []

abbrev halves_apart-4 : Polynomial
halves_apart-4 =
    (1, 0 ∷ 0 ∷ 0 ∷ 0 ∷ 0 ∷ 0 ∷ 0 ∷ 0 ∷ 1 ∷ 2 ∷ []) ∷ (1, 0 ∷ 0 ∷ 0 ∷ 0 ∷ 0 ∷ 0 ∷ 1 ∷ 0 ∷ 0 ∷ 2 ∷ []) ∷ []

abbrev halves_apart-5 : Polynomial
halves_apart-5 =
    (1, 0 ∷ 0 ∷ 0 ∷ 0 ∷ 0 ∷ 0 ∷ 0 ∷ 0 ∷ 1 ∷ 2 ∷ []) ∷ (1, 0 ∷ 0 ∷ 0 ∷ 0 ∷ 0 ∷ 0 ∷ 1 ∷ 0 ∷ 0 ∷ 2 ∷ []) ∷ []

abbrev halves_apart-6 : Polynomial
halves_apart-6 =
    (1, 1 ∷ 0 ∷ 0 ∷ 0 ∷ 0 ∷ 0 ∷ 0 ∷ 0 ∷ 2 ∷ []) ∷ (1, 1 ∷ 0 ∷ 0 ∷ 0 ∷ 0 ∷ 0 ∷ 1 ∷ 0 ∷ 2 ∷ []) ∷ []

abbrev halves_apart-7 : Polynomial
halves_apart-7 =
    (1, 1 ∷ 0 ∷ 0 ∷ 0 ∷ 0 ∷ 0 ∷ 0 ∷ 0 ∷ 2 ∷ []) ∷ []

abbrev halves_apart-8 : Polynomial
halves_apart-8 =
    (1, 0 ∷ 0 ∷ 0 ∷ 0 ∷ 0 ∷ 0 ∷ 0 ∷ 0 ∷ 0 ∷ 2 ∷ []) ∷ []

abbrev halves_apart-9 : Polynomial
halves_apart-9 =
    (1, []) ∷ []

abbrev halves_apart-10 : Polynomial
halves_apart-10 =
    (1, 0 ∷ 0 ∷ 0 ∷ 0 ∷ 0 ∷ 0 ∷ 0 ∷ 0 ∷ 2 ∷ []) ∷ []

abbrev halves_apart-11 : Polynomial
halves_apart-11 =
    (1, []) ∷ (1, 0 ∷ 0 ∷ 0 ∷ 0 ∷ 0 ∷ 0 ∷ 0 ∷ 2 ∷ []) ∷ []

abbrev halves_apart-steps : List Step
halves_apart-steps = (
  var 8,
  times (var 1) (var 4),
  halves_apart-1,
) ∷ (
  var 8,
  times (var 2) (var 5),
  halves_apart-2,
) ∷ (
  var 4,
  plus (var 8) (var 6),
  halves_apart-3,
) ∷ (
  var 5,
  plus (var 8) (var 3),
  halves_apart-4,
) ∷ (
  plus (var 3) (var 6),
  lit 0,
  halves_apart-5,
) ∷ (
  lit 0,
  plus (var 3) (var 6),
  halves_apart-6,
) ∷ (
  times (var 6) (var 6),
  plus (lit 1) (times (var 7) (var 7)),
  halves_apart-7,
) ∷ (
  plus (lit 1) (times (var 7) (var 7)),
  times (var 6) (var 6),
  halves_apart-8,
) ∷ (
  plus (plus (times (var 7) (var 7)) (lit 1)) (times (times (times (times (var 0) (var 7)) (var 7)) (var 8)) (var 8)),
  times (var 8) (var 8),
  halves_apart-9,
) ∷ (
  plus (times (var 9) (var 9)) (lit 1),
  lit 0,
  halves_apart-10,
) ∷ (
  lit 0,
  plus (times (var 9) (var 9)) (lit 1),
  halves_apart-11,
) ∷ []

-- the squares of two candidates, times d, make a square
pub halves_apart : (m d g h f T R e X Y i : ℕ) → 0 < m
    → (g * T) % m ≡ (Y) % m
    → (h * R) % m ≡ (Y) % m
    → (T) % m ≡ (Y + e) % m
    → (R) % m ≡ (Y + f) % m
    → (f + e) % m ≡ (0) % m
    → (e * e) % m ≡ (1 + X * X) % m
    → (X * X + 1 + d * X * X * Y * Y) % m ≡ (Y * Y) % m
    → (i * i + 1) % m ≡ (0) % m
    → (d * (g * (1 + e) * (h * (1 + f))) * (T * R)) % m ≡ (i * i * (T * R)) % m
halves_apart m d g h f T R e X Y i pos h1 h2 h3 h4 h5 h6 h7 h8 =
    follows
    (times (times (var 0) (times (times (var 1) (plus (lit 1) (var 6))) (times (var 2) (plus (lit 1) (var 3)))))
    (times (var 4) (var 5)))
    (times (times (var 9) (var 9)) (times (var 4) (var 5)))
    halves_apart-steps refl m pos (d ∷ g ∷ h ∷ f ∷ T ∷ R ∷ e ∷ X ∷ Y ∷ i ∷ [])
    (sym h1, (sym h2, (h3, (h4, (h5, (sym h5, (h6, (sym h6, (h7, (h8, (sym h8, tt)))))))))))

abbrev sums_apart-1 : Polynomial
sums_apart-1 =
    (1, 0 ∷ 0 ∷ 0 ∷ 0 ∷ 1 ∷ []) ∷ (1, 0 ∷ 0 ∷ 1 ∷ []) ∷ []

abbrev sums_apart-2 : Polynomial
sums_apart-2 =
    (1, []) ∷ []

abbrev sums_apart-3 : Polynomial
sums_apart-3 =
    (1, []) ∷ []

abbrev sums_apart-steps : List Step
sums_apart-steps = (
  lit 0,
  plus (var 1) (var 2),
  sums_apart-1,
) ∷ (
  times (var 2) (var 2),
  plus (lit 1) (times (var 3) (var 3)),
  sums_apart-2,
) ∷ (
  plus (plus (times (var 3) (var 3)) (lit 1)) (times (times (times (times (var 0) (var 3)) (var 3)) (var 4)) (var 4)),
  times (var 4) (var 4),
  sums_apart-3,
) ∷ []

-- where f is -e, both sums make a product of the coordinates
pub sums_apart : (m d f e X Y : ℕ) → 0 < m
    → (f + e) % m ≡ (0) % m
    → (e * e) % m ≡ (1 + X * X) % m
    → (X * X + 1 + d * X * X * Y * Y) % m ≡ (Y * Y) % m
    → ((Y + e) * (Y + f)) % m ≡ (d * (X * X * (Y * Y))) % m
sums_apart m d f e X Y pos h1 h2 h3 =
    follows
    (times (plus (var 4) (var 2)) (plus (var 4) (var 1)))
    (times (var 0) (times (times (var 3) (var 3)) (times (var 4) (var 4))))
    sums_apart-steps refl m pos (d ∷ f ∷ e ∷ X ∷ Y ∷ [])
    (sym h1, (h2, (h3, tt)))

abbrev ones_apart-1 : Polynomial
ones_apart-1 =
    (1, []) ∷ (1, 0 ∷ 1 ∷ []) ∷ []

abbrev ones_apart-2 : Polynomial
ones_apart-2 =
    (1, []) ∷ []

abbrev ones_apart-3 : Polynomial
ones_apart-3 =
    (1, 0 ∷ 0 ∷ 2 ∷ []) ∷ []

abbrev ones_apart-steps : List Step
ones_apart-steps = (
  lit 0,
  plus (var 0) (var 1),
  ones_apart-1,
) ∷ (
  times (var 1) (var 1),
  plus (lit 1) (times (var 2) (var 2)),
  ones_apart-2,
) ∷ (
  plus (times (var 3) (var 3)) (lit 1),
  lit 0,
  ones_apart-3,
) ∷ []

-- and the sums with 1 the square of the turned first one
pub ones_apart : (m f e X i : ℕ) → 0 < m
    → (f + e) % m ≡ (0) % m
    → (e * e) % m ≡ (1 + X * X) % m
    → (i * i + 1) % m ≡ (0) % m
    → ((1 + e) * (1 + f)) % m ≡ (i * X * (i * X)) % m
ones_apart m f e X i pos h1 h2 h3 =
    follows
    (times (plus (lit 1) (var 1)) (plus (lit 1) (var 0)))
    (times (times (var 3) (var 2)) (times (var 3) (var 2)))
    ones_apart-steps refl m pos (f ∷ e ∷ X ∷ i ∷ [])
    (sym h1, (h2, (h3, tt)))

abbrev other_root-1 : Polynomial
other_root-1 =
    (1, 0 ∷ 1 ∷ []) ∷ []

abbrev other_root-2 : Polynomial
other_root-2 =
    (1, 1 ∷ []) ∷ []

abbrev other_root-steps : List Step
other_root-steps = (
  plus (var 0) (var 1),
  lit 0,
  other_root-1,
) ∷ (
  lit 0,
  plus (var 0) (var 1),
  other_root-2,
) ∷ []

-- f has the square of e
pub other_root : (m f e : ℕ) → 0 < m
    → (f + e) % m ≡ (0) % m
    → (f * f) % m ≡ (e * e) % m
other_root m f e pos h1 =
    follows
    (times (var 0) (var 0))
    (times (var 1) (var 1))
    other_root-steps refl m pos (f ∷ e ∷ [])
    (h1, (sym h1, tt))
