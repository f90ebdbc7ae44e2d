-- Polynomials with coefficients that are numbers: expressions, their normal form, and their values.
use Rattle.std.specs.Prelude.{◌≡◌, ℕ, zero, suc, ◌+◌, ◌*◌, ◌^◌, ◌&&◌, Bool, true, false, cond, List, [], ◌∷◌}
use Rattle.std.proofs.Common.{eqb, ltb}

-- a product of powers of the unknowns: the exponent of each unknown, with no zero at the end
abbrev pub Monomial : Type 0
Monomial = List ℕ

-- a sum of monomials with coefficients
abbrev pub Polynomial : Type 0
Polynomial = List (ℕ × Monomial)

-- sums and products of unknowns and numbers
pub data Expr : Type 0 where
  var : ℕ → Expr
  lit : ℕ → Expr
  plus : Expr → Expr → Expr
  times : Expr → Expr → Expr

-- ---- values

-- the unknown i has the value at place i; an unknown past the last has the value 1
abbrev pub unknown : List ℕ → ℕ → ℕ
unknown [] i = 1
unknown (x ∷ xs) zero = x
unknown (x ∷ xs) (suc i) = unknown xs i

-- the value of an expression
abbrev pub value : List ℕ → Expr → ℕ
value xs (var i) = unknown xs i
value xs (lit c) = c
value xs (plus a b) = value xs a + value xs b
value xs (times a b) = value xs a * value xs b

-- the value of a monomial
abbrev pub monomial_at : List ℕ → Monomial → ℕ
monomial_at xs [] = 1
monomial_at [] (e ∷ m) = 1
monomial_at (x ∷ xs) (e ∷ m) = x ^ e * monomial_at xs m

-- the value of a polynomial
abbrev pub polynomial_at : List ℕ → Polynomial → ℕ
polynomial_at xs [] = 0
polynomial_at xs (t ∷ p) = t.0 * monomial_at xs t.1 + polynomial_at xs p

-- ---- monomials

-- the product of two monomials
abbrev pub add_exponents : Monomial → Monomial → Monomial
add_exponents [] n = n
add_exponents (e ∷ m) [] = e ∷ m
add_exponents (e ∷ m) (f ∷ n) = (e + f) ∷ add_exponents m n

-- the unknown i alone
abbrev pub unit : ℕ → Monomial
unit zero = 1 ∷ []
unit (suc i) = 0 ∷ unit i

-- whether two monomials are the same
abbrev pub same_monomial : Monomial → Monomial → Bool
same_monomial [] [] = true
same_monomial [] (f ∷ n) = false
same_monomial (e ∷ m) [] = false
same_monomial (e ∷ m) (f ∷ n) = eqb e f && same_monomial m n

-- whether one stands before the other: the first exponent that differs decides
abbrev pub less_monomial : Monomial → Monomial → Bool
less_monomial [] [] = false
less_monomial [] (f ∷ n) = true
less_monomial (e ∷ m) [] = false
less_monomial (e ∷ m) (f ∷ n) = let r = less_monomial m n in cond (ltb e f) true (let s = r in cond (eqb e f) s false)

-- ---- polynomials

-- t and p put together with a sorted list, where f puts p together with one
abbrev pub insert : ℕ × Monomial → Polynomial → (Polynomial → Polynomial) → Polynomial → Polynomial
insert t p f [] = t ∷ p
insert t p f (u ∷ q) =
    let first = t ∷ f (u ∷ q) in
    let both = (t.0 + u.0, t.1) ∷ f q in
    let second = u ∷ insert t p f q in
    let other = cond (same_monomial t.1 u.1) both second in
    cond (less_monomial t.1 u.1) first other

-- the sum of two polynomials
abbrev pub merge : Polynomial → Polynomial → Polynomial
merge [] q = q
merge (t ∷ p) q = insert t p (λ r. merge p r) q

-- the product with a coefficient and a monomial
abbrev pub times_term : ℕ × Monomial → Polynomial → Polynomial
times_term t [] = []
times_term t (u ∷ p) = (t.0 * u.0, add_exponents t.1 u.1) ∷ times_term t p

-- the product of two polynomials
abbrev pub product : Polynomial → Polynomial → Polynomial
product [] q = []
product (t ∷ p) q = merge (times_term t q) (product p q)

-- whether two polynomials are the same, term by term
abbrev pub same_polynomial : Polynomial → Polynomial → Bool
same_polynomial [] [] = true
same_polynomial [] (u ∷ q) = false
same_polynomial (t ∷ p) [] = false
same_polynomial (t ∷ p) (u ∷ q) = eqb t.0 u.0 && (same_monomial t.1 u.1 && same_polynomial p q)

-- the number c, without a term where it is 0
abbrev pub constant : ℕ → Polynomial
constant zero = []
constant (suc c) = (suc c, []) ∷ []

-- the polynomial that an expression is
abbrev pub normal : Expr → Polynomial
normal (var i) = (1, unit i) ∷ []
normal (lit c) = constant c
normal (plus a b) = merge (normal a) (normal b)
normal (times a b) = product (normal a) (normal b)

-- two expressions with the same polynomial have the same value, whatever the unknowns are
abbrev pub SamePolynomialSameValue : Type 0
SamePolynomialSameValue = (a b : Expr) → same_polynomial (normal a) (normal b) ≡ true
    → (xs : List ℕ) → value xs a ≡ value xs b
