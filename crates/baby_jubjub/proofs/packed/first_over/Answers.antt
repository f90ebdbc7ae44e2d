use Rattle.std.proofs.Common.{◌+◌, ◌-◌, ◌*◌, ◌%◌, ◌∙◌, ap, sym, refl, true≢false}
use Rattle.number_facts.proofs.Units.{certified}
use Rattle.ark_wide_fields.specs.Laws.Bn254Fr.{prime_factors, generates}
use Rattle.ark_wide_fields.specs.Laws.Fp256.{wide_below}
use Rattle.baby_jubjub.specs.BabyJubjub.{p}
use Rattle.baby_jubjub.specs.Values.{value}
use Rattle.baby_jubjub.proofs.Roots.{square_is, over_alike}
use Rattle.baby_jubjub.proofs.packed.first_over.Goals as goal

pub returns-in_err-root-clause-none : goal.returns-in_err-root-clause-none
returns-in_err-root-clause-none c none x on =
    c.in_err-root.ensures.none refl x
    (square_is x (value c.args.y) (value c.mul-yy.result) (value c.mul.result) (value c.sub-numerator.result)
    (value c.sub-denominator.result) (value c.prime_inverse.result) (value c.mul-2.result) on c.mul-yy.ensures
    (c.sub-numerator.ensures ∙ ap (λ n. (n + (p - value c.mul-yy.result)) % p) c.one.ensures)
    (c.mul.ensures ∙ ap (λ n. n * value c.mul-yy.result % p) c.from_u64-2.ensures)
    (c.sub-denominator.ensures ∙ ap (λ n. (n + (p - value c.mul.result)) % p) c.from_u64.ensures)
    (c.prime_inverse.ensures (certified p 5 (p - 1) prime_factors generates)) c.mul-2.ensures)

pub returns-else-is_on_curve-clause-none : goal.returns-else-is_on_curve-clause-none
returns-else-is_on_curve-clause-none c none x on =
    let root = c.in_ok-root.root in
    true≢false (sym (c.is_on_curve.ensures.1 (over_alike x (value root) (value c.args.y) on (wide_below root)
    (square_is x (value c.args.y) (value c.mul-yy.result) (value c.mul.result) (value c.sub-numerator.result)
    (value c.sub-denominator.result) (value c.prime_inverse.result) (value c.mul-2.result) on c.mul-yy.ensures
    (c.sub-numerator.ensures ∙ ap (λ n. (n + (p - value c.mul-yy.result)) % p) c.one.ensures)
    (c.mul.ensures ∙ ap (λ n. n * value c.mul-yy.result % p) c.from_u64-2.ensures)
    (c.sub-denominator.ensures ∙ ap (λ n. (n + (p - value c.mul.result)) % p) c.from_u64.ensures)
    (c.prime_inverse.ensures (certified p 5 (p - 1) prime_factors generates)) c.mul-2.ensures
    ∙ sym c.in_ok-root.ensures.some))) ∙ c.if-is_on_curve.false)
