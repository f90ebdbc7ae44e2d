use Rattle.std.proofs.Common.{◌+◌, ◌-◌, ◌*◌, ◌%◌, ◌∙◌, ap}
use Rattle.std.proofs.lemmas.Option.{IfSome_then}
use Rattle.jubjub.specs.Jubjub.{p, d}
use Rattle.jubjub.specs.Values.{value}
use Rattle.jubjub.specs.Laws.Modulus.{has_inverses}
use Rattle.jubjub.specs.Laws.FirstCoordinates.{denominator_some, k_some, over_from, over_root}
use Rattle.jubjub.proofs.decoding.root_over.Goals as goal

pub root_of_quotient-requires : goal.root_of_quotient-requires
root_of_quotient-requires c none =
    let y = value c.args.y in
    let s = value c.mul-square.result in
    k_some p d has_inverses y (denominator_some y) s (value c.sub-numerator.result) (value c.mul.result)
    (value c.add-denominator.result) c.mul-square.ensures
    (c.sub-numerator.ensures ∙ ap (λ t. (s + (p - t)) % p) c.one.ensures)
    (c.mul.ensures ∙ ap (λ t. t * s % p) c.coefficient.ensures)
    (c.add-denominator.ensures ∙ ap (λ t. (t + value c.mul.result) % p) c.one-2.ensures) (ap (λ t. t % p) none)

pub returns-clause-some : goal.returns-clause-some
returns-clause-some c =
    let y = value c.args.y in
    let s = value c.mul-square.result in
    IfSome_then c.root_of_quotient.result c.root_of_quotient.ensures.some (λ x.
    over_from p d has_inverses y (denominator_some y) s (value c.sub-numerator.result) (value c.mul.result)
    (value c.add-denominator.result) c.mul-square.ensures
    (c.sub-numerator.ensures ∙ ap (λ t. (s + (p - t)) % p) c.one.ensures)
    (c.mul.ensures ∙ ap (λ t. t * s % p) c.coefficient.ensures)
    (c.add-denominator.ensures ∙ ap (λ t. (t + value c.mul.result) % p) c.one-2.ensures) (value x))

pub returns-clause-none : goal.returns-clause-none
returns-clause-none c none x over =
    let y = value c.args.y in
    let s = value c.mul-square.result in
    c.root_of_quotient.ensures.none none x
    (over_root p d has_inverses y (denominator_some y) s (value c.sub-numerator.result) (value c.mul.result)
    (value c.add-denominator.result) c.mul-square.ensures
    (c.sub-numerator.ensures ∙ ap (λ t. (s + (p - t)) % p) c.one.ensures)
    (c.mul.ensures ∙ ap (λ t. t * s % p) c.coefficient.ensures)
    (c.add-denominator.ensures ∙ ap (λ t. (t + value c.mul.result) % p) c.one-2.ensures) x over)
