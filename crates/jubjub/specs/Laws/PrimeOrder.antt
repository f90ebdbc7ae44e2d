-- The order of the prime subgroup is a prime, so only zero has a smaller one.
use Rattle.std.proofs.Common.{◌≡◌, ℕ, ◌-◌, ◌*◌, ◌%◌, ◌^◌, sym, ◌∙◌, ap, subst, mul_comm}
use Rattle.number_facts.proofs.Units.{power_inverse}
use Rattle.ark_groups.specs.Group.{times}
use Rattle.ark_groups.specs.Words.{number}
use Rattle.ark_groups.proofs.Multiples.{times-mul, times-mod, times-identity}
use Rattle.jubjub.specs.declared.element.Jubjub.{Jubjub}
use Rattle.jubjub.specs.contracts.fr.JubjubFrModulusWideModulus.TheImpl.{ghosts as scalar_ghosts}
use Rattle.jubjub.specs.Jubjub.{order}
use Rattle.jubjub.specs.Elements.{jubjub}
use Rattle.jubjub.specs.Laws.Group.{jubjub_laws, of_order, modulus_is_order}
use Rattle.jubjub.specs.Laws.OrderPrime.{factors_order, generates_order}

-- what the order does not divide has an inverse modulo it
pub inverse : (n : ℕ) → (n % order ≡ 0 → ⊥) → (z : ℕ) × (n * z % order ≡ 1)
inverse n some =
    (n ^ (order - 2) % order, power_inverse order 6 (order - 1) factors_order generates_order n some)

pub of_prime_order : (n : ℕ) (x : Jubjub) → times jubjub n x ≡ jubjub.identity → (n % order ≡ 0 → ⊥)
    → x ≡ jubjub.identity
of_prime_order n x zero some =
    let z = inverse n some in
    sym (jubjub_laws.left_identity x) ∙ ap (λ k. times jubjub k x) (sym z.1)
    ∙ times-mod jubjub_laws order (n * z.0) x (of_order x) ∙ ap (λ k. times jubjub k x) (mul_comm n z.0)
    ∙ times-mul jubjub_laws z.0 n x ∙ ap (times jubjub z.0) zero ∙ times-identity jubjub_laws z.0

-- the same by the modulus of the scalars
pub prime_order : (n : ℕ) (x : Jubjub) → times jubjub n x ≡ jubjub.identity
    → (n % number scalar_ghosts.P ≡ 0 → ⊥) → x ≡ jubjub.identity
prime_order n x zero some =
    of_prime_order n x zero (λ none. some (subst (λ (m : ℕ). n % m ≡ 0) (sym modulus_is_order) none))
