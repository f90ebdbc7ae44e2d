-- The value that tells the multiples of 8, at a double and at a double of a double, by products.
-- The polynomials are the cofactors of the equations, found by division; the check multiplies them out.
use Rattle.std.proofs.Common.{◌≡◌, ℕ, ◌+◌, ◌*◌, ◌%◌, ◌<◌, List, [], ◌∷◌, refl, sym}
use Rattle.number_facts.specs.Polynomials.{Polynomial, var, lit, plus, times}
use Rattle.number_facts.specs.Congruences.{Step}
use Rattle.number_facts.proofs.Consequences.{follows}

abbrev root_of_value-1 : Polynomial
root_of_value-1 =
    (1, 4 ∷ 4 ∷ 6 ∷ 2 ∷ []) ∷ []

abbrev root_of_value-steps : List Step
root_of_value-steps = (
  times (var 4) (var 4),
  times (var 1) (times (var 5) (var 5)),
  root_of_value-1,
) ∷ []

-- the value, times V V, is a square
pub root_of_value : (m n b M E w V : ℕ) → 0 < m
    → (b * (V * V)) % m ≡ (w * w) % m
    → (n * b * M * (n * b * M) * (n * b * M * (n * b * M)) * (M * E * (M * E)) * b * (V * V)) % m ≡ (n * b * M * (n *
    b * M) * (M * E) * w * (n * b * M * (n * b * M) * (M * E) * w)) % m
root_of_value m n b M E w V pos h1 =
    follows
    (times (times (times (times (times (times (times (var 0) (var 1)) (var 2)) (times (times (var 0) (var 1)) (var
    2))) (times (times (times (var 0) (var 1)) (var 2)) (times (times (var 0) (var 1)) (var 2)))) (times (times (var
    2) (var 3)) (times (var 2) (var 3)))) (var 1)) (times (var 5) (var 5)))
    (times (times (times (times (times (times (var 0) (var 1)) (var 2)) (times (times (var 0) (var 1)) (var 2)))
    (times (var 2) (var 3))) (var 4)) (times (times (times (times (times (var 0) (var 1)) (var 2)) (times (times (var
    0) (var 1)) (var 2))) (times (var 2) (var 3))) (var 4)))
    root_of_value-steps refl m pos (n ∷ b ∷ M ∷ E ∷ w ∷ V ∷ [])
    (sym h1, tt)

abbrev root_of_double-1 : Polynomial
root_of_double-1 =
    (2, 0 ∷ 2 ∷ 3 ∷ 1 ∷ 6 ∷ 6 ∷ 0 ∷ 1 ∷ 1 ∷ 2 ∷ 1 ∷ 1 ∷ []) ∷ (2, 1 ∷ 2 ∷ 3 ∷ 1 ∷ 7 ∷ 7 ∷ 1 ∷ 0 ∷ 0 ∷ 0 ∷ 1 ∷ 1 ∷ []) ∷
    []

abbrev root_of_double-2 : Polynomial
root_of_double-2 =
    (8, 0 ∷ 0 ∷ 3 ∷ 1 ∷ 6 ∷ 2 ∷ 0 ∷ 2 ∷ 2 ∷ 4 ∷ 3 ∷ 3 ∷ []) ∷ (2, 0 ∷ 1 ∷ 3 ∷ 1 ∷ 6 ∷ 4 ∷ 0 ∷ 2 ∷ 2 ∷ 4 ∷ 1 ∷ 1 ∷ []) ∷
    []

abbrev root_of_double-3 : Polynomial
root_of_double-3 =
    (128, 0 ∷ 0 ∷ 0 ∷ 1 ∷ 0 ∷ 2 ∷ 0 ∷ 2 ∷ 6 ∷ 4 ∷ 5 ∷ 7 ∷ []) ∷
    (64, 0 ∷ 0 ∷ 1 ∷ 1 ∷ 2 ∷ 2 ∷ 0 ∷ 2 ∷ 4 ∷ 4 ∷ 5 ∷ 6 ∷ []) ∷
    (32, 0 ∷ 0 ∷ 2 ∷ 1 ∷ 4 ∷ 2 ∷ 0 ∷ 2 ∷ 2 ∷ 4 ∷ 5 ∷ 5 ∷ []) ∷ []

abbrev root_of_double-4 : Polynomial
root_of_double-4 =
    (256, 0 ∷ 0 ∷ 0 ∷ 0 ∷ 0 ∷ 1 ∷ 0 ∷ 2 ∷ 8 ∷ 4 ∷ 5 ∷ 8 ∷ []) ∷ []

abbrev root_of_double-steps : List Step
root_of_double-steps = (
  times (times (var 7) (var 8)) (times (var 9) (var 9)),
  times (times (var 0) (times (var 4) (var 5))) (var 6),
  root_of_double-1,
) ∷ (
  times (times (lit 2) (times (var 10) (var 11))) (times (lit 2) (times (var 10) (var 11))),
  times (var 1) (times (var 5) (var 5)),
  root_of_double-2,
) ∷ (
  times (times (lit 2) (var 11)) (times (var 8) (var 8)),
  times (var 2) (times (var 4) (var 4)),
  root_of_double-3,
) ∷ (
  times (lit 2) (var 12),
  times (var 3) (var 5),
  root_of_double-4,
) ∷ []

-- the root of the value of a double
pub root_of_double : (m n b M E U V e y z g s S c : ℕ) → 0 < m
    → (n * (U * V) * e) % m ≡ (y * z * (g * g)) % m
    → (b * (V * V)) % m ≡ (2 * (s * S) * (2 * (s * S))) % m
    → (M * (U * U)) % m ≡ (2 * S * (z * z)) % m
    → (E * V) % m ≡ (2 * c) % m
    → (n * b * M * (n * b * M) * (M * E) * (2 * (s * S)) * (U * V * (U * V) * (U * V * (U * V)) * (U * V * (U * V) *
    (U * V * (U * V)))) * (e * e)) % m ≡ (2 * s * V * (4 * s * (S * S) * (z * z) * g * (4 * s * (S * S) * (z * z) * g)
    * (4 * s * (S * S) * (z * z) * g * (4 * s * (S * S) * (z * z) * g))) * (y * y * c)) % m
root_of_double m n b M E U V e y z g s S c pos h1 h2 h3 h4 =
    follows
    (times (times (times (times (times (times (times (var 0) (var 1)) (var 2)) (times (times (var 0) (var 1)) (var
    2))) (times (var 2) (var 3))) (times (lit 2) (times (var 10) (var 11)))) (times (times (times (times (var 4) (var
    5)) (times (var 4) (var 5))) (times (times (var 4) (var 5)) (times (var 4) (var 5)))) (times (times (times (var 4)
    (var 5)) (times (var 4) (var 5))) (times (times (var 4) (var 5)) (times (var 4) (var 5)))))) (times (var 6) (var
    6)))
    (times (times (times (times (lit 2) (var 10)) (var 5)) (times (times (times (times (times (times (lit 4) (var 10))
    (times (var 11) (var 11))) (times (var 8) (var 8))) (var 9)) (times (times (times (times (lit 4) (var 10)) (times
    (var 11) (var 11))) (times (var 8) (var 8))) (var 9))) (times (times (times (times (times (lit 4) (var 10)) (times
    (var 11) (var 11))) (times (var 8) (var 8))) (var 9)) (times (times (times (times (lit 4) (var 10)) (times (var
    11) (var 11))) (times (var 8) (var 8))) (var 9))))) (times (times (var 7) (var 7)) (var 12)))
    root_of_double-steps refl m pos (n ∷ b ∷ M ∷ E ∷ U ∷ V ∷ e ∷ y ∷ z ∷ g ∷ s ∷ S ∷ c ∷ [])
    (sym h1, (sym h2, (sym h3, (sym h4, tt))))

abbrev root_of_quadruple-1 : Polynomial
root_of_quadruple-1 =
    (4, 0 ∷ 1 ∷ 0 ∷ 2 ∷ 0 ∷ 0 ∷ 1 ∷ 2 ∷ []) ∷ (4, 1 ∷ 1 ∷ 0 ∷ 2 ∷ 1 ∷ 0 ∷ 0 ∷ 2 ∷ []) ∷ []

abbrev root_of_quadruple-2 : Polynomial
root_of_quadruple-2 =
    (4, 0 ∷ 0 ∷ 0 ∷ 0 ∷ 0 ∷ 0 ∷ 2 ∷ 2 ∷ []) ∷ []

abbrev root_of_quadruple-3 : Polynomial
root_of_quadruple-3 =
    (2, 0 ∷ 0 ∷ 0 ∷ 2 ∷ 0 ∷ 2 ∷ 0 ∷ 1 ∷ 0 ∷ 4 ∷ []) ∷ (1, 0 ∷ 0 ∷ 1 ∷ 2 ∷ 1 ∷ 2 ∷ 0 ∷ 0 ∷ 0 ∷ 4 ∷ []) ∷ []

abbrev root_of_quadruple-4 : Polynomial
root_of_quadruple-4 =
    (4, 0 ∷ 0 ∷ 0 ∷ 0 ∷ 0 ∷ 0 ∷ 0 ∷ 2 ∷ 2 ∷ 4 ∷ []) ∷ (4, 0 ∷ 0 ∷ 0 ∷ 1 ∷ 0 ∷ 1 ∷ 0 ∷ 2 ∷ 0 ∷ 4 ∷ []) ∷ []

abbrev root_of_quadruple-5 : Polynomial
root_of_quadruple-5 =
    (4, 0 ∷ 0 ∷ 0 ∷ 0 ∷ 0 ∷ 0 ∷ 0 ∷ 2 ∷ 3 ∷ 3 ∷ []) ∷ (4, 0 ∷ 0 ∷ 0 ∷ 0 ∷ 0 ∷ 0 ∷ 1 ∷ 2 ∷ 2 ∷ 2 ∷ []) ∷
    (4, 0 ∷ 0 ∷ 0 ∷ 0 ∷ 0 ∷ 0 ∷ 2 ∷ 2 ∷ 1 ∷ 1 ∷ []) ∷ (4, 0 ∷ 0 ∷ 0 ∷ 0 ∷ 0 ∷ 0 ∷ 3 ∷ 2 ∷ []) ∷ []

abbrev root_of_quadruple-steps : List Step
root_of_quadruple-steps = (
  var 6,
  times (var 0) (var 4),
  root_of_quadruple-1,
) ∷ (
  times (var 6) (var 6),
  times (var 1) (times (var 3) (var 3)),
  root_of_quadruple-2,
) ∷ (
  times (var 2) (var 4),
  times (lit 2) (var 7),
  root_of_quadruple-3,
) ∷ (
  times (var 5) (var 3),
  times (var 8) (var 8),
  root_of_quadruple-4,
) ∷ (
  times (var 9) (var 8),
  var 6,
  root_of_quadruple-5,
) ∷ []

-- what is left of it where the half is a double too
pub root_of_quadruple : (m y c E U V q o C t z : ℕ) → 0 < m
    → (y * V) % m ≡ (o) % m
    → (c * (U * U)) % m ≡ (o * o) % m
    → (E * V) % m ≡ (2 * C) % m
    → (q * U) % m ≡ (t * t) % m
    → (z * t) % m ≡ (o) % m
    → (y * y * c * (2 * C * (2 * C)) * (U * V * (U * V))) % m ≡ (E * q * (z * z) * (E * q * (z * z)) * (U * V * (U *
    V))) % m
root_of_quadruple m y c E U V q o C t z pos h1 h2 h3 h4 h5 =
    follows
    (times (times (times (times (var 0) (var 0)) (var 1)) (times (times (lit 2) (var 7)) (times (lit 2) (var 7))))
    (times (times (var 3) (var 4)) (times (var 3) (var 4))))
    (times (times (times (times (var 2) (var 5)) (times (var 9) (var 9))) (times (times (var 2) (var 5)) (times (var
    9) (var 9)))) (times (times (var 3) (var 4)) (times (var 3) (var 4))))
    root_of_quadruple-steps refl m pos (y ∷ c ∷ E ∷ U ∷ V ∷ q ∷ o ∷ C ∷ t ∷ z ∷ [])
    (sym h1, (sym h2, (h3, (h4, (h5, tt)))))

abbrev two_steps-1 : Polynomial
two_steps-1 =
    (4, 0 ∷ 0 ∷ 0 ∷ 0 ∷ 2 ∷ []) ∷ []

abbrev two_steps-2 : Polynomial
two_steps-2 =
    (1, 0 ∷ 0 ∷ 1 ∷ []) ∷ []

abbrev two_steps-steps : List Step
two_steps-steps = (
  times (var 2) (var 3),
  times (var 0) (times (var 1) (var 1)),
  two_steps-1,
) ∷ (
  times (times (var 1) (times (var 5) (var 5))) (times (var 1) (times (var 5) (var 5))),
  times (var 3) (times (times (lit 2) (var 4)) (times (lit 2) (var 4))),
  two_steps-2,
) ∷ []

-- both together
pub two_steps : (m A e B w C z : ℕ) → 0 < m
    → (A * (e * e)) % m ≡ (B * w) % m
    → (w * (2 * C * (2 * C))) % m ≡ (e * (z * z) * (e * (z * z))) % m
    → (A * (2 * C * (2 * C)) * (e * e)) % m ≡ (B * (z * z * (z * z)) * (e * e)) % m
two_steps m A e B w C z pos h1 h2 =
    follows
    (times (times (var 0) (times (times (lit 2) (var 4)) (times (lit 2) (var 4)))) (times (var 1) (var 1)))
    (times (times (var 2) (times (times (var 5) (var 5)) (times (var 5) (var 5)))) (times (var 1) (var 1)))
    two_steps-steps refl m pos (A ∷ e ∷ B ∷ w ∷ C ∷ z ∷ [])
    (sym h1, (sym h2, tt))

abbrev three_steps-1 : Polynomial
three_steps-1 =
    (1, 0 ∷ 0 ∷ 0 ∷ 8 ∷ 0 ∷ 8 ∷ []) ∷ (8, 0 ∷ 0 ∷ 0 ∷ 8 ∷ 0 ∷ 8 ∷ 0 ∷ 0 ∷ 0 ∷ 1 ∷ []) ∷
    (28, 0 ∷ 0 ∷ 0 ∷ 8 ∷ 0 ∷ 8 ∷ 0 ∷ 0 ∷ 0 ∷ 2 ∷ []) ∷ (56, 0 ∷ 0 ∷ 0 ∷ 8 ∷ 0 ∷ 8 ∷ 0 ∷ 0 ∷ 0 ∷ 3 ∷ []) ∷
    (70, 0 ∷ 0 ∷ 0 ∷ 8 ∷ 0 ∷ 8 ∷ 0 ∷ 0 ∷ 0 ∷ 4 ∷ []) ∷ (56, 0 ∷ 0 ∷ 0 ∷ 8 ∷ 0 ∷ 8 ∷ 0 ∷ 0 ∷ 0 ∷ 5 ∷ []) ∷
    (28, 0 ∷ 0 ∷ 0 ∷ 8 ∷ 0 ∷ 8 ∷ 0 ∷ 0 ∷ 0 ∷ 6 ∷ []) ∷ (8, 0 ∷ 0 ∷ 0 ∷ 8 ∷ 0 ∷ 8 ∷ 0 ∷ 0 ∷ 0 ∷ 7 ∷ []) ∷
    (1, 0 ∷ 0 ∷ 0 ∷ 8 ∷ 0 ∷ 8 ∷ 0 ∷ 0 ∷ 0 ∷ 8 ∷ []) ∷ []

abbrev three_steps-2 : Polynomial
three_steps-2 =
    (4, 0 ∷ 0 ∷ 1 ∷ 4 ∷ 2 ∷ 0 ∷ 0 ∷ 0 ∷ 8 ∷ []) ∷ (2, 0 ∷ 1 ∷ 0 ∷ 0 ∷ 0 ∷ 0 ∷ 1 ∷ 4 ∷ 8 ∷ []) ∷ []

abbrev three_steps-3 : Polynomial
three_steps-3 =
    (16, 0 ∷ 0 ∷ 2 ∷ 8 ∷ 0 ∷ 6 ∷ []) ∷ (16, 0 ∷ 0 ∷ 2 ∷ 8 ∷ 1 ∷ 4 ∷ 0 ∷ 0 ∷ 2 ∷ []) ∷
    (16, 0 ∷ 0 ∷ 2 ∷ 8 ∷ 2 ∷ 2 ∷ 0 ∷ 0 ∷ 4 ∷ []) ∷ (16, 0 ∷ 0 ∷ 2 ∷ 8 ∷ 3 ∷ 0 ∷ 0 ∷ 0 ∷ 6 ∷ []) ∷ []

abbrev three_steps-4 : Polynomial
three_steps-4 =
    (15, 0 ∷ 0 ∷ 2 ∷ 8 ∷ 0 ∷ 8 ∷ []) ∷ []

abbrev three_steps-5 : Polynomial
three_steps-5 =
    (8, 0 ∷ 0 ∷ 2 ∷ 8 ∷ 0 ∷ 8 ∷ 0 ∷ 0 ∷ 0 ∷ 1 ∷ []) ∷ (43, 0 ∷ 0 ∷ 2 ∷ 8 ∷ 0 ∷ 8 ∷ 0 ∷ 0 ∷ 0 ∷ 2 ∷ []) ∷
    (48, 0 ∷ 0 ∷ 2 ∷ 8 ∷ 0 ∷ 8 ∷ 0 ∷ 0 ∷ 0 ∷ 3 ∷ []) ∷ (27, 0 ∷ 0 ∷ 2 ∷ 8 ∷ 0 ∷ 8 ∷ 0 ∷ 0 ∷ 0 ∷ 4 ∷ []) ∷
    (8, 0 ∷ 0 ∷ 2 ∷ 8 ∷ 0 ∷ 8 ∷ 0 ∷ 0 ∷ 0 ∷ 5 ∷ []) ∷ (1, 0 ∷ 0 ∷ 2 ∷ 8 ∷ 0 ∷ 8 ∷ 0 ∷ 0 ∷ 0 ∷ 6 ∷ []) ∷ []

abbrev three_steps-steps : List Step
three_steps-steps = (
  times (var 2) (var 2),
  times (var 0) (times (var 1) (var 1)),
  three_steps-1,
) ∷ (
  times (times (times (lit 2) (var 6)) (var 1)) (times (times (var 7) (var 7)) (times (var 7) (var 7))),
  times (times (var 2) (times (times (var 3) (var 3)) (times (var 3) (var 3)))) (times (times (lit 2) (var 4)) (times
      (lit 2) (var 4))),
  three_steps-2,
) ∷ (
  times (var 4) (times (var 8) (var 8)),
  times (var 5) (var 5),
  three_steps-3,
) ∷ (
  plus (times (var 9) (var 9)) (lit 1),
  lit 0,
  three_steps-4,
) ∷ (
  lit 0,
  plus (times (var 9) (var 9)) (lit 1),
  three_steps-5,
) ∷ []

-- the value of 8 times a point is an eighth power, but for the constant
pub three_steps : (m F V H D C o s B u i : ℕ) → 0 < m
    → (F * (V * V)) % m ≡ (H * H) % m
    → (H * (D * D * (D * D)) * (2 * C * (2 * C))) % m ≡ (2 * s * V * (B * B * (B * B))) % m
    → (C * (u * u)) % m ≡ (o * o) % m
    → (i * i + 1) % m ≡ (0) % m
    → (F * ((1 + i) * (D * o) * ((1 + i) * (D * o)) * ((1 + i) * (D * o) * ((1 + i) * (D * o))) * ((1 + i) * (D * o) *
    ((1 + i) * (D * o)) * ((1 + i) * (D * o) * ((1 + i) * (D * o))))) * (V * V)) % m ≡ (2 * s * (2 * s) * (B * u * (B
    * u) * (B * u * (B * u)) * (B * u * (B * u) * (B * u * (B * u)))) * (V * V)) % m
three_steps m F V H D C o s B u i pos h1 h2 h3 h4 =
    follows
    (times (times (var 0) (times (times (times (times (plus (lit 1) (var 9)) (times (var 3) (var 5))) (times (plus
    (lit 1) (var 9)) (times (var 3) (var 5)))) (times (times (plus (lit 1) (var 9)) (times (var 3) (var 5))) (times
    (plus (lit 1) (var 9)) (times (var 3) (var 5))))) (times (times (times (plus (lit 1) (var 9)) (times (var 3) (var
    5))) (times (plus (lit 1) (var 9)) (times (var 3) (var 5)))) (times (times (plus (lit 1) (var 9)) (times (var 3)
    (var 5))) (times (plus (lit 1) (var 9)) (times (var 3) (var 5))))))) (times (var 1) (var 1)))
    (times (times (times (times (lit 2) (var 6)) (times (lit 2) (var 6))) (times (times (times (times (var 7) (var 8))
    (times (var 7) (var 8))) (times (times (var 7) (var 8)) (times (var 7) (var 8)))) (times (times (times (var 7)
    (var 8)) (times (var 7) (var 8))) (times (times (var 7) (var 8)) (times (var 7) (var 8)))))) (times (var 1) (var
    1)))
    three_steps-steps refl m pos (F ∷ V ∷ H ∷ D ∷ C ∷ o ∷ s ∷ B ∷ u ∷ i ∷ [])
    (sym h1, (sym h2, (h3, (h4, (sym h4, tt)))))

abbrev first_quotient-1 : Polynomial
first_quotient-1 =
    (1, 0 ∷ 0 ∷ 0 ∷ 0 ∷ 2 ∷ []) ∷ []

abbrev first_quotient-2 : Polynomial
first_quotient-2 =
    (1, 1 ∷ []) ∷ []

abbrev first_quotient-steps : List Step
first_quotient-steps = (
  times (times (var 2) (var 3)) (times (var 2) (var 3)),
  times (var 0) (var 1),
  first_quotient-1,
) ∷ (
  times (times (var 4) (var 4)) (var 1),
  times (times (times (lit 2) (var 2)) (times (lit 2) (var 2))) (times (var 5) (var 5)),
  first_quotient-2,
) ∷ []

-- a value with an eighth power shows that one more than the square is a square
pub first_quotient : (m c b s S T h : ℕ) → 0 < m
    → (c * b) % m ≡ (s * S * (s * S)) % m
    → (T * T * b) % m ≡ (2 * s * (2 * s) * (h * h)) % m
    → (c * (2 * s * h * (2 * s * h))) % m ≡ (s * S * T * (s * S * T)) % m
first_quotient m c b s S T h pos h1 h2 =
    follows
    (times (var 0) (times (times (times (lit 2) (var 2)) (var 5)) (times (times (lit 2) (var 2)) (var 5))))
    (times (times (times (var 2) (var 3)) (var 4)) (times (times (var 2) (var 3)) (var 4)))
    first_quotient-steps refl m pos (c ∷ b ∷ s ∷ S ∷ T ∷ h ∷ [])
    (sym h1, (h2, tt))

abbrev second_root-1 : Polynomial
second_root-1 =
    (1, []) ∷ []

abbrev second_root-2 : Polynomial
second_root-2 =
    (1, 0 ∷ 2 ∷ []) ∷ []

abbrev second_root-steps : List Step
second_root-steps = (
  times (var 0) (times (var 1) (var 1)),
  times (var 2) (var 2),
  second_root-1,
) ∷ (
  times (times (times (lit 2) (var 3)) (times (lit 2) (var 3))) (times (var 4) (var 4)),
  var 0,
  second_root-2,
) ∷ []

-- and so the square of its root
pub second_root : (m F V H s h : ℕ) → 0 < m
    → (F * (V * V)) % m ≡ (H * H) % m
    → (F) % m ≡ (2 * s * (2 * s) * (h * h)) % m
    → (H * H) % m ≡ (2 * s * V * h * (2 * s * V * h)) % m
second_root m F V H s h pos h1 h2 =
    follows
    (times (var 2) (var 2))
    (times (times (times (times (lit 2) (var 3)) (var 1)) (var 4)) (times (times (times (lit 2) (var 3)) (var 1)) (var
    4)))
    second_root-steps refl m pos (F ∷ V ∷ H ∷ s ∷ h ∷ [])
    (h1, (sym h2, tt))

abbrev second_quotient-1 : Polynomial
second_quotient-1 =
    (1, 0 ∷ 0 ∷ 0 ∷ 0 ∷ 0 ∷ 1 ∷ 2 ∷ []) ∷ []

abbrev second_quotient-2 : Polynomial
second_quotient-2 =
    (1, []) ∷ []

abbrev second_quotient-steps : List Step
second_quotient-steps = (
  var 0,
  times (var 1) (times (times (times (lit 2) (var 2)) (var 3)) (var 4)),
  second_quotient-1,
) ∷ (
  times (times (times (times (lit 2) (var 2)) (var 3)) (var 7)) (var 8),
  times (times (var 0) (var 5)) (times (var 6) (var 6)),
  second_quotient-2,
) ∷ []

-- from which the root is known
pub second_quotient : (m H t s V h D e K w : ℕ) → 0 < m
    → (H) % m ≡ (t * (2 * s * V * h)) % m
    → (H * D * (e * e)) % m ≡ (2 * s * V * K * w) % m
    → (t * h * D * (e * e) * (2 * s * V)) % m ≡ (K * w * (2 * s * V)) % m
second_quotient m H t s V h D e K w pos h1 h2 =
    follows
    (times (times (times (times (var 1) (var 4)) (var 5)) (times (var 6) (var 6))) (times (times (lit 2) (var 2)) (var
    3)))
    (times (times (var 7) (var 8)) (times (times (lit 2) (var 2)) (var 3)))
    second_quotient-steps refl m pos (H ∷ t ∷ s ∷ V ∷ h ∷ D ∷ e ∷ K ∷ w ∷ [])
    (h1, (sym h2, tt))

abbrev third_quotient-1 : Polynomial
third_quotient-1 =
    (1, 0 ∷ 0 ∷ 0 ∷ 0 ∷ 0 ∷ 1 ∷ []) ∷ []

abbrev third_quotient-2 : Polynomial
third_quotient-2 =
    (1, 0 ∷ 0 ∷ 2 ∷ 2 ∷ []) ∷ []

abbrev third_quotient-3 : Polynomial
third_quotient-3 =
    (1, 2 ∷ 1 ∷ []) ∷ []

abbrev third_quotient-steps : List Step
third_quotient-steps = (
  times (times (var 2) (var 2)) (times (var 3) (var 3)),
  times (times (var 0) (var 0)) (times (lit 2) (var 1)),
  third_quotient-1,
) ∷ (
  times (var 4) (var 4),
  var 5,
  third_quotient-2,
) ∷ (
  lit 0,
  plus (times (var 5) (var 5)) (lit 1),
  third_quotient-3,
) ∷ []

-- at the next step
pub third_quotient : (m X C t L j i : ℕ) → 0 < m
    → (X * X * (2 * C)) % m ≡ (t * t * (L * L)) % m
    → (j * j) % m ≡ (i) % m
    → (i * i + 1) % m ≡ (0) % m
    → (C * ((1 + i) * X * ((1 + i) * X))) % m ≡ (j * t * L * (j * t * L)) % m
third_quotient m X C t L j i pos h1 h2 h3 =
    follows
    (times (var 1) (times (times (plus (lit 1) (var 5)) (var 0)) (times (plus (lit 1) (var 5)) (var 0))))
    (times (times (times (var 4) (var 2)) (var 3)) (times (times (var 4) (var 2)) (var 3)))
    third_quotient-steps refl m pos (X ∷ C ∷ t ∷ L ∷ j ∷ i ∷ [])
    (sym h1, (h2, (sym h3, tt)))
