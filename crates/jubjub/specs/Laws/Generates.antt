-- Each element is one multiple of the generator below the order, and no other one.
use Rattle.std.proofs.Common.{◌≡◌, ℕ, ◌*◌, ◌<◌, sym, ◌∙◌, ap, arith, lit<}
use Rattle.jubjub.specs.declared.element.Jubjub.{Jubjub}
use Rattle.jubjub.specs.Edwards.{Coordinates}
use Rattle.jubjub.specs.Jubjub.{p, order, base_point}
use Rattle.jubjub.specs.Elements.{coordinates, jubjub, base}
use Rattle.jubjub.specs.Theorems.{BaseGenerates}
use Rattle.jubjub.specs.Laws.Covering.{multiples_apart, is_multiple}
use Rattle.jubjub.specs.Laws.Elements.{kept}
use Rattle.jubjub.specs.Laws.Generator.{generator_in_subgroup}
use Rattle.jubjub.specs.Laws.Group.{jubjub_laws, of_order, at-identity}
use Rattle.jubjub.specs.Laws.PrimeOrder.{inverse, of_prime_order}
use Rattle.jubjub.specs.Laws.SameFirst.{same_first}

-- fewer first coordinates than pairs of multiples
few : p < order * order
unfolding order
few = lit< tt

some : 0 < order
unfolding order
some = lit< tt

-- the generator is not zero
differs : base ≡ jubjub.identity → ⊥
unfolding base
differs e =
    clash (ap (λ (c : Coordinates). c.x) (sym (kept base_point generator_in_subgroup) ∙ ap coordinates e
    ∙ at-identity))
  where
    clash : ◌≡◌ {A = ℕ} base_point.x 0 → ⊥
    clash h = omega (arith, h)

below : (e : Jubjub) → (coordinates e).x < p
below e = e.in_subgroup.on_curve.x_below

pub base_generates : BaseGenerates
base_generates = record {
  each = is_multiple jubjub jubjub_laws (λ e. (coordinates e).x) p order same_first below few some inverse of_order
      of_prime_order base differs;
  apart = multiples_apart jubjub jubjub_laws (λ e. (coordinates e).x) p order same_first below few some inverse of_order
      of_prime_order base differs;
}
