use Rattle.std.proofs.Common.{◌≡◌, ℕ, suc, ◌+◌, ◌-◌, ◌<◌, sym, ap, ◌∙◌, arith}
use Rattle.poseidon_grain.specs.Grain.{feedback, shifted, bit_within}
use Rattle.poseidon_grain.proofs.Bits.{bit_at_once, bit_later, no_bit}
use Rattle.poseidon_grain.proofs.register.next_bit.Goals as goal

next : (i : ℕ) → i < 80 → 80 - i ≡ suc (80 - (i + 1))
next i more = omega (arith, more)

pub returns-then-feedback-eq1-clause-drawn : goal.returns-then-feedback-eq1-clause-drawn
returns-then-feedback-eq1-clause-drawn c =
    sym (c.loop.invariant ∙ ap (λ n. bit_within n c.loop.register) (next c.loop.counter c.loop-test.true)
    ∙ bit_at_once (80 - (c.loop.counter + 1)) c.loop.register
    (sym c.feedback.ensures.value ∙ c.if-feedback-eq1.true)
    ∙ ap (λ n. (feedback n, shifted n)) (sym c.shifted-second.ensures)
    ∙ ap (λ n. (n, shifted c.shifted-second.result)) (sym c.feedback-then-feedback-eq1.ensures.value)
    ∙ ap (λ n. (c.feedback-then-feedback-eq1.result, n)) (sym c.shifted.ensures))

pub loop-preserved : goal.loop-preserved
loop-preserved c =
    let zero : feedback c.loop.register ≡ 0 =
    sym c.feedback.ensures.value ∙ omega (arith, c.feedback.ensures.below, c.if-feedback-eq1.false) in
    c.loop.invariant ∙ ap (λ n. bit_within n c.loop.register) (next c.loop.counter c.loop-test.true)
    ∙ bit_later (80 - (c.loop.counter + 1)) c.loop.register zero
    ∙ ap (λ n. bit_within (80 - (c.loop.counter + 1)) (shifted n)) (sym c.shifted-second.ensures)
    ∙ ap (bit_within (80 - (c.loop.counter + 1))) (sym c.shifted.ensures)

pub returns-clause-drawn : goal.returns-clause-drawn
returns-clause-drawn c =
    let none : 80 - c.loop.counter ≡ 0 = omega (arith, c.loop-test.false) in
    sym (c.loop.invariant ∙ ap (λ n. bit_within n c.loop.register) none ∙ no_bit c.loop.register)
