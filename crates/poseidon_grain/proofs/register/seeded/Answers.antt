use Rattle.std.proofs.Common.{◌≡◌, suc, ◌+◌, ◌-◌, sym, ap, ◌∙◌, arith}
use Rattle.poseidon_grain.specs.Grain.{stepped}
use Rattle.poseidon_grain.proofs.Bits.{one_step, no_step}
use Rattle.poseidon_grain.proofs.register.seeded.Goals as goal

pub loop-preserved : goal.loop-preserved
loop-preserved c =
    let one : 160 - c.loop.counter ≡ suc (160 - (c.loop.counter + 1)) = omega (arith, c.loop-test.true) in
    ap (stepped (160 - (c.loop.counter + 1))) c.shifted-register.ensures
    ∙ sym (one_step (160 - (c.loop.counter + 1)) c.loop.register)
    ∙ ap (λ n. stepped n c.loop.register) (sym one) ∙ c.loop.invariant

pub returns : goal.returns
returns c =
    let none : 160 - c.loop.counter ≡ 0 = omega (arith, c.loop-test.false) in
    sym (no_step c.loop.register) ∙ ap (λ n. stepped n c.loop.register) (sym none) ∙ c.loop.invariant
    ∙ ap (stepped 160) c.start-register.ensures
