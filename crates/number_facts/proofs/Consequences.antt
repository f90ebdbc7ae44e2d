-- What multiples of congruences give, agrees.
use Rattle.std.proofs.Common.{◌≡◌, ℕ, ◌+◌, ◌*◌, ◌%◌, List, [], ◌∷◌, refl, sym, ◌∙◌, ap, ap₂, arith}
use Rattle.number_facts.specs.Polynomials.{Polynomial, value, polynomial_at, normal, product}
use Rattle.number_facts.specs.Congruences.{Step, AllAgree, with_first, with_second, FollowsFromSteps}
use Rattle.number_facts.proofs.PolynomialValues.{normal_right, polynomial-merge, polynomial-product, polynomial-same}
use Rattle.number_facts.proofs.CongruenceLaws.{sums, multiples, without}

-- the multiples of the first sides, and of the second
abbrev firsts : List ℕ → List Step → ℕ
firsts xs [] = 0
firsts xs (s ∷ steps) = value xs s.0 * polynomial_at xs s.2 + firsts xs steps

abbrev seconds : List ℕ → List Step → ℕ
seconds xs [] = 0
seconds xs (s ∷ steps) = value xs s.1 * polynomial_at xs s.2 + seconds xs steps

with_first-at : (xs : List ℕ) (p : Polynomial) (steps : List Step) → polynomial_at xs (with_first p steps)
    ≡ polynomial_at xs p + firsts xs steps
with_first-at xs p [] = omega arith
with_first-at xs p (s ∷ steps) =
    polynomial-merge xs (product (normal s.0) s.2) (with_first p steps)
    ∙ ap₂ (λ a b. a + b) (polynomial-product xs (normal s.0) s.2
    ∙ ap (λ a. a * polynomial_at xs s.2) (normal_right xs s.0))
    (with_first-at xs p steps) ∙ omega arith

with_second-at : (xs : List ℕ) (p : Polynomial) (steps : List Step) → polynomial_at xs (with_second p steps)
    ≡ polynomial_at xs p + seconds xs steps
with_second-at xs p [] = omega arith
with_second-at xs p (s ∷ steps) =
    polynomial-merge xs (product (normal s.1) s.2) (with_second p steps)
    ∙ ap₂ (λ a b. a + b) (polynomial-product xs (normal s.1) s.2
    ∙ ap (λ a. a * polynomial_at xs s.2) (normal_right xs s.1))
    (with_second-at xs p steps) ∙ omega arith

all_agree : (m : ℕ) (xs : List ℕ) (steps : List Step) → AllAgree m xs steps → firsts xs steps % m ≡ seconds xs steps % m
all_agree m xs [] h = refl
all_agree m xs (s ∷ steps) h =
    sums m (value xs s.0 * polynomial_at xs s.2) (value xs s.1 * polynomial_at xs s.2) (firsts xs steps)
    (seconds xs steps)
    (multiples m (value xs s.0) (value xs s.1) (polynomial_at xs s.2) h.0) (all_agree m xs steps h.1)

pub follows : FollowsFromSteps
follows a b steps same m pos xs agree =
    let whole : value xs a + firsts xs steps ≡ value xs b + seconds xs steps =
    ap (λ t. t + firsts xs steps) (sym (normal_right xs a)) ∙ sym (with_first-at xs (normal a) steps)
    ∙ polynomial-same xs (with_first (normal a) steps) (with_second (normal b) steps) same
    ∙ with_second-at xs (normal b) steps ∙ ap (λ t. t + seconds xs steps) (normal_right xs b) in
    without m (value xs a) (value xs b) (firsts xs steps) (seconds xs steps) pos whole (all_agree m xs steps agree)
