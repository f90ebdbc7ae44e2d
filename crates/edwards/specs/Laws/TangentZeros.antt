-- The tangent at a point of order 8: where it is 0.
-- A first coordinate x is turned to w = i x.
-- The polynomials are the cofactors of the equations, found by division; the check multiplies them out.
use Rattle.std.proofs.Common.{◌≡◌, ℕ, ◌+◌, ◌*◌, ◌%◌, ◌<◌, List, [], ◌∷◌, refl, sym}
use Rattle.number_facts.specs.Polynomials.{Polynomial, var, lit, plus, times}
use Rattle.number_facts.specs.Congruences.{Step}
use Rattle.number_facts.proofs.Consequences.{follows}

abbrev tangent_apart-1 : Polynomial
tangent_apart-1 =
    (1, 0 ∷ 0 ∷ 1 ∷ []) ∷ (1, 1 ∷ 1 ∷ 1 ∷ []) ∷ []

abbrev tangent_apart-2 : Polynomial
tangent_apart-2 =
    (1, []) ∷ (1, 0 ∷ 1 ∷ []) ∷ []

abbrev tangent_apart-3 : Polynomial
tangent_apart-3 =
    (1, 0 ∷ 0 ∷ 2 ∷ []) ∷ (1, 0 ∷ 0 ∷ 2 ∷ 1 ∷ []) ∷ (1, 1 ∷ 1 ∷ 2 ∷ []) ∷ []

abbrev tangent_apart-steps : List Step
tangent_apart-steps = (
  plus (plus (lit 1) (var 2)) (times (var 1) (plus (lit 1) (times (var 0) (var 2)))),
  lit 0,
  tangent_apart-1,
) ∷ (
  lit 0,
  plus (plus (lit 1) (var 2)) (times (var 1) (plus (lit 1) (times (var 0) (var 2)))),
  tangent_apart-2,
) ∷ (
  var 3,
  plus (lit 1) (times (var 0) (var 1)),
  tangent_apart-3,
) ∷ []

-- where the tangent is 0, the second coordinate is a quotient, here squared
pub tangent_apart : (m k w y u : ℕ) → 0 < m
    → (1 + y + w * (1 + k * y)) % m ≡ (0) % m
    → (u) % m ≡ (1 + k * w) % m
    → ((1 + w) * (1 + w)) % m ≡ (y * u * (y * u)) % m
tangent_apart m k w y u pos h1 h2 =
    follows
    (times (plus (lit 1) (var 1)) (plus (lit 1) (var 1)))
    (times (times (var 2) (var 3)) (times (var 2) (var 3)))
    tangent_apart-steps refl m pos (k ∷ w ∷ y ∷ u ∷ [])
    (h1, (sym h1, (h2, tt)))

abbrev tangent_on_curve-1 : Polynomial
tangent_on_curve-1 =
    (1, []) ∷ (1, 2 ∷ 0 ∷ 0 ∷ 1 ∷ []) ∷ []

abbrev tangent_on_curve-2 : Polynomial
tangent_on_curve-2 =
    (1, 0 ∷ 0 ∷ 2 ∷ []) ∷ []

abbrev tangent_on_curve-steps : List Step
tangent_on_curve-steps = (
  times (times (var 1) (var 2)) (times (var 1) (var 2)),
  var 4,
  tangent_on_curve-1,
) ∷ (
  lit 1,
  plus (plus (times (var 0) (var 0)) (times (var 1) (var 1))) (times (times (var 3) (times (var 0) (var 0))) (times
      (var 1) (var 1))),
  tangent_on_curve-2,
) ∷ []

-- on the curve, this is an equation of the first coordinate
pub tangent_on_curve : (m w y u d q : ℕ) → 0 < m
    → (q) % m ≡ (y * u * (y * u)) % m
    → (w * w + y * y + d * (w * w) * (y * y)) % m ≡ (1) % m
    → (w * w * (u * u) + q * (1 + d * w * w)) % m ≡ (u * u) % m
tangent_on_curve m w y u d q pos h1 h2 =
    follows
    (plus (times (times (var 0) (var 0)) (times (var 2) (var 2))) (times (var 4) (plus (lit 1) (times (times (var 3)
    (var 0)) (var 0)))))
    (times (var 2) (var 2))
    tangent_on_curve-steps refl m pos (w ∷ y ∷ u ∷ d ∷ q ∷ [])
    (sym h1, (sym h2, tt))

abbrev tangent_roots-1 : Polynomial
tangent_roots-1 =
    (2, 0 ∷ 0 ∷ 0 ∷ 0 ∷ 1 ∷ []) ∷ (4, 0 ∷ 0 ∷ 0 ∷ 0 ∷ 1 ∷ 1 ∷ []) ∷ (2, 0 ∷ 0 ∷ 0 ∷ 0 ∷ 1 ∷ 2 ∷ []) ∷
    (2, 0 ∷ 0 ∷ 0 ∷ 0 ∷ 2 ∷ []) ∷ (2, 0 ∷ 0 ∷ 0 ∷ 0 ∷ 2 ∷ 1 ∷ []) ∷ []

abbrev tangent_roots-2 : Polynomial
tangent_roots-2 =
    (2, 0 ∷ 0 ∷ 0 ∷ 0 ∷ 2 ∷ 2 ∷ []) ∷ (2, 0 ∷ 0 ∷ 0 ∷ 0 ∷ 2 ∷ 3 ∷ []) ∷ (2, 0 ∷ 0 ∷ 0 ∷ 0 ∷ 3 ∷ 1 ∷ []) ∷
    (4, 0 ∷ 0 ∷ 0 ∷ 0 ∷ 3 ∷ 2 ∷ []) ∷ (2, 0 ∷ 0 ∷ 0 ∷ 0 ∷ 3 ∷ 3 ∷ []) ∷ (2, 1 ∷ 0 ∷ 0 ∷ 0 ∷ 1 ∷ []) ∷
    (4, 1 ∷ 0 ∷ 0 ∷ 0 ∷ 1 ∷ 1 ∷ []) ∷ (2, 1 ∷ 0 ∷ 0 ∷ 0 ∷ 1 ∷ 2 ∷ []) ∷ (2, 1 ∷ 0 ∷ 0 ∷ 0 ∷ 2 ∷ []) ∷
    (4, 1 ∷ 0 ∷ 0 ∷ 0 ∷ 2 ∷ 1 ∷ []) ∷ (2, 1 ∷ 0 ∷ 0 ∷ 0 ∷ 2 ∷ 2 ∷ []) ∷ []

abbrev tangent_roots-3 : Polynomial
tangent_roots-3 =
    (1, 0 ∷ 0 ∷ 0 ∷ 0 ∷ 2 ∷ []) ∷ (1, 0 ∷ 0 ∷ 1 ∷ 0 ∷ 3 ∷ []) ∷ (1, 0 ∷ 1 ∷ 0 ∷ 0 ∷ 2 ∷ []) ∷ []

abbrev tangent_roots-4 : Polynomial
tangent_roots-4 =
    (1, []) ∷ (1, 0 ∷ 0 ∷ 1 ∷ 0 ∷ 1 ∷ []) ∷ (1, 0 ∷ 1 ∷ []) ∷ []

abbrev tangent_roots-5 : Polynomial
tangent_roots-5 =
    (2, 0 ∷ 0 ∷ 0 ∷ 0 ∷ 2 ∷ 1 ∷ []) ∷ (1, 0 ∷ 0 ∷ 0 ∷ 0 ∷ 2 ∷ 2 ∷ []) ∷ (2, 0 ∷ 0 ∷ 0 ∷ 0 ∷ 3 ∷ []) ∷
    (1, 0 ∷ 0 ∷ 1 ∷ 0 ∷ 4 ∷ []) ∷ []

abbrev tangent_roots-6 : Polynomial
tangent_roots-6 =
    (2, 0 ∷ 0 ∷ 0 ∷ 0 ∷ 1 ∷ []) ∷ (2, 0 ∷ 0 ∷ 0 ∷ 0 ∷ 4 ∷ 1 ∷ []) ∷ (1, 0 ∷ 0 ∷ 0 ∷ 0 ∷ 4 ∷ 2 ∷ []) ∷
    (1, 0 ∷ 0 ∷ 1 ∷ 0 ∷ 2 ∷ []) ∷ []

abbrev tangent_roots-7 : Polynomial
tangent_roots-7 =
    (1, 0 ∷ 0 ∷ 0 ∷ 0 ∷ 2 ∷ []) ∷ (2, 0 ∷ 0 ∷ 0 ∷ 0 ∷ 3 ∷ []) ∷ (1, 0 ∷ 0 ∷ 0 ∷ 0 ∷ 4 ∷ []) ∷ []

abbrev tangent_roots-steps : List Step
tangent_roots-steps = (
  plus (var 0) (lit 1),
  times (var 5) (var 4),
  tangent_roots-1,
) ∷ (
  times (var 5) (var 4),
  plus (var 0) (lit 1),
  tangent_roots-2,
) ∷ (
  var 1,
  plus (lit 1) (times (var 2) (var 4)),
  tangent_roots-3,
) ∷ (
  plus (lit 1) (times (var 2) (var 4)),
  var 1,
  tangent_roots-4,
) ∷ (
  plus (plus (var 2) (times (var 5) (var 5))) (times (lit 2) (var 5)),
  lit 0,
  tangent_roots-5,
) ∷ (
  lit 0,
  plus (plus (var 2) (times (var 5) (var 5))) (times (lit 2) (var 5)),
  tangent_roots-6,
) ∷ (
  plus (var 3) (times (times (lit 2) (var 5)) (var 5)),
  times (times (times (var 5) (var 5)) (var 5)) (var 5),
  tangent_roots-7,
) ∷ []

-- which has a root twice
pub tangent_roots : (m v u k d w r : ℕ) → 0 < m
    → (v + 1) % m ≡ (r * w) % m
    → (u) % m ≡ (1 + k * w) % m
    → (k + r * r + 2 * r) % m ≡ (0) % m
    → (r * r * r * r) % m ≡ (d + 2 * r * r) % m
    → ((1 + w) * (w * (2 * ((1 + r) * (1 + r)) * (v * v))) + u * u) % m ≡ (w * w * (u * u) + (1 + w) * (1 + w) * (1 +
    d * w * w)) % m
tangent_roots m v u k d w r pos h1 h2 h3 h4 =
    follows
    (plus (times (plus (lit 1) (var 4)) (times (var 4) (times (times (lit 2) (times (plus (lit 1) (var 5)) (plus (lit
    1) (var 5)))) (times (var 0) (var 0))))) (times (var 1) (var 1)))
    (plus (times (times (var 4) (var 4)) (times (var 1) (var 1))) (times (times (plus (lit 1) (var 4)) (plus (lit 1)
    (var 4))) (plus (lit 1) (times (times (var 3) (var 4)) (var 4)))))
    tangent_roots-steps refl m pos (v ∷ u ∷ k ∷ d ∷ w ∷ r ∷ [])
    (h1, (sym h1, (h2, (sym h2, (h3, (sym h3, (sym h4, tt)))))))

abbrev tangent_second-1 : Polynomial
tangent_second-1 =
    (1, []) ∷ (1, 1 ∷ 0 ∷ 0 ∷ 0 ∷ 1 ∷ []) ∷ []

abbrev tangent_second-2 : Polynomial
tangent_second-2 =
    (1, 0 ∷ 0 ∷ 0 ∷ 0 ∷ 1 ∷ []) ∷ []

abbrev tangent_second-3 : Polynomial
tangent_second-3 =
    (1, []) ∷ (1, 0 ∷ 1 ∷ []) ∷ []

abbrev tangent_second-steps : List Step
tangent_second-steps = (
  times (var 1) (var 3),
  lit 1,
  tangent_second-1,
) ∷ (
  plus (plus (var 0) (times (var 1) (var 1))) (times (lit 2) (var 1)),
  lit 0,
  tangent_second-2,
) ∷ (
  lit 1,
  plus (var 2) (times (var 1) (var 4)),
  tangent_second-3,
) ∷ []

-- over this root the tangent is 0 at one second coordinate alone
pub tangent_second : (m k r h w y : ℕ) → 0 < m
    → (r * w) % m ≡ (1) % m
    → (k + r * r + 2 * r) % m ≡ (0) % m
    → (h + r * y) % m ≡ (1) % m
    → ((1 + r) * h) % m ≡ (r * (1 + y + w * (1 + k * y))) % m
tangent_second m k r h w y pos h1 h2 h3 =
    follows
    (times (plus (lit 1) (var 1)) (var 2))
    (times (var 1) (plus (plus (lit 1) (var 4)) (times (var 3) (plus (lit 1) (times (var 0) (var 4))))))
    tangent_second-steps refl m pos (k ∷ r ∷ h ∷ w ∷ y ∷ [])
    (h1, (h2, (sym h3, tt)))

abbrev left_alone-1 : Polynomial
left_alone-1 =
    (1, []) ∷ []

abbrev left_alone-steps : List Step
left_alone-steps = (
  var 1,
  plus (var 0) (var 1),
  left_alone-1,
) ∷ []

-- what changes no sum is 0
pub left_alone : (m t s : ℕ) → 0 < m
    → (t + s) % m ≡ (s) % m
    → (t) % m ≡ (0) % m
left_alone m t s pos h1 =
    follows
    (var 0)
    (lit 0)
    left_alone-steps refl m pos (t ∷ s ∷ [])
    (sym h1, tt)
