-- What follows modulo a number from given congruences, by polynomials that multiply them.
use Rattle.std.specs.Prelude.{◌≡◌, ℕ, ◌%◌, ◌<◌, true, List, [], ◌∷◌}
use Rattle.number_facts.specs.Polynomials.{Expr, Polynomial, value, normal, merge, product}
use Rattle.number_facts.specs.Polynomials.{same_polynomial}

-- two sides that agree modulo m, and the polynomial that multiplies both
abbrev pub Step : Type 0
Step = Expr × Expr × Polynomial

-- the two sides of each step agree modulo m
abbrev pub AllAgree : ℕ → List ℕ → List Step → Type 0
AllAgree m xs [] = Unit {0}
AllAgree m xs (s ∷ steps) = (value xs s.0 % m ≡ value xs s.1 % m) × AllAgree m xs steps

-- a polynomial with the multiples of the steps' first sides
abbrev pub with_first : Polynomial → List Step → Polynomial
with_first p [] = p
with_first p (s ∷ steps) = merge (product (normal s.0) s.2) (with_first p steps)

-- a polynomial with the multiples of the steps' second sides
abbrev pub with_second : Polynomial → List Step → Polynomial
with_second p [] = p
with_second p (s ∷ steps) = merge (product (normal s.1) s.2) (with_second p steps)

-- where a with the first sides and b with the second sides are one polynomial, a and b agree modulo m
abbrev pub FollowsFromSteps : Type 0
FollowsFromSteps = (a b : Expr) (steps : List Step)
    → same_polynomial (with_first (normal a) steps) (with_second (normal b) steps) ≡ true
    → (m : ℕ) → 0 < m → (xs : List ℕ) → AllAgree m xs steps → value xs a % m ≡ value xs b % m
