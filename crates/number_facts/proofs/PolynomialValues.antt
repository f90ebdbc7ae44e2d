-- The normal form of an expression has the expression's value.
use Rattle.std.proofs.Common.{◌≡◌, ℕ, zero, suc, ◌+◌, ◌*◌, ◌^◌, ◌&&◌, true, List, [], ◌∷◌, refl, sym, ◌∙◌, ap, ap₂, eqb}
use Rattle.std.proofs.Common.{arith, true≢false, pow-suc}
use Rattle.std.proofs.lemmas.Bool.{eqb-true, and_parts, cond_both}
use Rattle.std.proofs.lemmas.Nat.{pow-add}
use Rattle.std.proofs.Math.Nat.{pow-zero}
use Rattle.number_facts.specs.Polynomials.{Expr, var, lit, plus, times, Monomial, Polynomial, SamePolynomialSameValue}
use Rattle.number_facts.specs.Polynomials.{unknown, value, monomial_at, polynomial_at, add_exponents, unit}
use Rattle.number_facts.specs.Polynomials.{same_monomial}
use Rattle.number_facts.specs.Polynomials.{less_monomial, insert, merge, times_term, product, same_polynomial, normal}

monomial-add : (xs m n : List ℕ) → monomial_at xs (add_exponents m n) ≡ monomial_at xs m * monomial_at xs n
monomial-add xs [] n = omega arith
monomial-add xs (e ∷ m) [] = omega arith
monomial-add [] (e ∷ m) (f ∷ n) = refl
monomial-add (x ∷ xs) (e ∷ m) (f ∷ n) =
    ap₂ (λ a b. a * b) (pow-add x e f) (monomial-add xs m n)
    ∙ regroup (x ^ e) (x ^ f) (monomial_at xs m) (monomial_at xs n)
  where
    regroup : (a b c d : ℕ) → a * b * (c * d) ≡ a * c * (b * d)
    regroup a b c d = omega arith

first_power : (x : ℕ) → x ^ 1 ≡ x
first_power x = pow-suc x 0 ∙ ap (λ y. y * x) (pow-zero x) ∙ omega arith

monomial-unit : (xs : List ℕ) (i : ℕ) → monomial_at xs (unit i) ≡ unknown xs i
monomial-unit [] zero = refl
monomial-unit [] (suc i) = refl
monomial-unit (x ∷ xs) zero = omega (arith, first_power x)
monomial-unit (x ∷ xs) (suc i) = ap (λ y. y * monomial_at xs (unit i)) (pow-zero x) ∙ one_times _ ∙ monomial-unit xs i
  where
    one_times : (a : ℕ) → 1 * a ≡ a
    one_times a = omega arith

monomial-same : (m n : List ℕ) → same_monomial m n ≡ true → m ≡ n
monomial-same [] [] h = refl
monomial-same [] (f ∷ n) h = absurd (true≢false (sym h))
monomial-same (e ∷ m) [] h = absurd (true≢false (sym h))
monomial-same (e ∷ m) (f ∷ n) h =
    let parts = and_parts (eqb e f) (same_monomial m n) h in
    ap₂ (λ a b. a ∷ b) (eqb-true e f parts.0) (monomial-same m n parts.1)

both_at : (a b m n r s v : ℕ) → m ≡ n → v ≡ r + s → (a + b) * m + v ≡ a * m + r + (b * n + s)
both_at a b m n r s v e h = ap (λ y. (a + b) * m + y) h ∙ omega arith ∙ ap (λ y. a * m + r + (b * y + s)) e

polynomial-insert : (xs : List ℕ) (t : ℕ × Monomial) (p : Polynomial) (f : Polynomial → Polynomial)
    → ((q : Polynomial) → polynomial_at xs (f q) ≡ polynomial_at xs p + polynomial_at xs q) → (q : Polynomial)
    → polynomial_at xs (insert t p f q) ≡ polynomial_at xs (t ∷ p) + polynomial_at xs q
polynomial-insert xs t p f right [] = omega arith
polynomial-insert xs t p f right (u ∷ q) =
    cond_both (less_monomial t.1 u.1) _ _ (λ r. polynomial_at xs r ≡ polynomial_at xs (t ∷ p) + polynomial_at xs
    (u ∷ q))
    (λ h. omega (arith, right (u ∷ q)))
    (λ h. cond_both (same_monomial t.1 u.1) _ _ (λ r. polynomial_at xs r ≡ polynomial_at xs (t ∷ p) + polynomial_at xs
    (u ∷ q))
    (λ e. let same : monomial_at xs t.1 ≡ monomial_at xs u.1 = ap (monomial_at xs) (monomial-same t.1 u.1 e) in
    both_at t.0 u.0 _ _ _ _ _ same (right q))
    (λ e. omega (arith, polynomial-insert xs t p f right q)))

pub polynomial-merge : (xs : List ℕ) (p q : Polynomial)
    → polynomial_at xs (merge p q) ≡ polynomial_at xs p + polynomial_at xs q
polynomial-merge xs [] q = omega arith
polynomial-merge xs (t ∷ p) q = polynomial-insert xs t p (λ r. merge p r) (λ r. polynomial-merge xs p r) q

polynomial-term : (xs : List ℕ) (t : ℕ × Monomial) (p : Polynomial)
    → polynomial_at xs (times_term t p) ≡ t.0 * monomial_at xs t.1 * polynomial_at xs p
polynomial-term xs t [] = omega arith
polynomial-term xs t (u ∷ p) =
    ap₂ (λ a b. t.0 * u.0 * a + b) (monomial-add xs t.1 u.1) (polynomial-term xs t p) ∙ regroup t.0 u.0 _ _ _
  where
    regroup : (a b m n r : ℕ) → a * b * (m * n) + a * m * r ≡ a * m * (b * n + r)
    regroup a b m n r = omega arith

pub polynomial-product : (xs : List ℕ) (p q : Polynomial)
    → polynomial_at xs (product p q) ≡ polynomial_at xs p * polynomial_at xs q
polynomial-product xs [] q = omega arith
polynomial-product xs (t ∷ p) q =
    polynomial-merge xs (times_term t q) (product p q)
    ∙ ap₂ (λ a b. a + b) (polynomial-term xs t q) (polynomial-product xs p q) ∙ omega arith

pub normal_right : (xs : List ℕ) (e : Expr) → polynomial_at xs (normal e) ≡ value xs e
normal_right xs (var i) = omega (arith, monomial-unit xs i)
normal_right xs (lit zero) = refl
normal_right xs (lit (suc c)) = omega arith
normal_right xs (plus a b) = polynomial-merge xs (normal a) (normal b)
    ∙ ap₂ (λ a b. a + b) (normal_right xs a) (normal_right xs b)
normal_right xs (times a b) = polynomial-product xs (normal a) (normal b)
    ∙ ap₂ (λ a b. a * b) (normal_right xs a) (normal_right xs b)

pub polynomial-same : (xs : List ℕ) (p q : Polynomial) → same_polynomial p q ≡ true
    → polynomial_at xs p ≡ polynomial_at xs q
polynomial-same xs [] [] h = refl
polynomial-same xs [] (u ∷ q) h = absurd (true≢false (sym h))
polynomial-same xs (t ∷ p) [] h = absurd (true≢false (sym h))
polynomial-same xs (t ∷ p) (u ∷ q) h =
    let first = and_parts (eqb t.0 u.0) (same_monomial t.1 u.1 && same_polynomial p q) h in
    let rest = and_parts (same_monomial t.1 u.1) (same_polynomial p q) first.1 in
    let same : monomial_at xs t.1 ≡ monomial_at xs u.1 = ap (monomial_at xs) (monomial-same t.1 u.1 rest.0) in
    ap₂ (λ a b. a + b) (ap₂ (λ a b. a * b) (eqb-true t.0 u.0 first.0) same) (polynomial-same xs p q rest.1)

-- two expressions with one normal form have one value, whatever the unknowns are
pub same_values : SamePolynomialSameValue
same_values a b h xs = sym (normal_right xs a) ∙ polynomial-same xs (normal a) (normal b) h ∙ normal_right xs b
