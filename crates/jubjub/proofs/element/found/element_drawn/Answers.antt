use Rattle.std.proofs.Common.{◌≡◌, ℕ, suc, ◌+◌, ◌-◌, ◌<◌, ◌≤◌, sym, ◌∙◌, ap, arith}
use Rattle.jubjub.specs.declared.element.Jubjub.{Jubjub}
use Rattle.jubjub.specs.Draws.{element_found}
use Rattle.jubjub.proofs.Drawn.{found_at_once, found_later, nothing_found}
use Rattle.jubjub.proofs.element.found.element_drawn.Goals as goal

next : (i : ℕ) → i < 128 → 128 - i ≡ suc (128 - (i + 1))
next i l = omega (arith, l)

pub returns-in-Some : goal.returns-in-Some
returns-in-Some g c =
    let before = g.R.Rng.stream c.loop.rng in
    sym (c.loop.invariant ∙ ap (λ n. element_found n before) (next c.loop.counter c.loop-test.true)
    ∙ found_at_once (128 - (c.loop.counter + 1)) before (g.R.Rng.stream c.rand.new.rng) c.rand.result c.rand.ensures
    c.in-Some.element (sym c.in-Some.ensures))

pub loop-preserved : goal.loop-preserved
loop-preserved g c =
    let before = g.R.Rng.stream c.loop.rng in
    c.loop.invariant ∙ ap (λ n. element_found n before) (next c.loop.counter c.loop-test.true)
    ∙ found_later (128 - (c.loop.counter + 1)) before (g.R.Rng.stream c.rand.new.rng) c.rand.result c.rand.ensures
    (sym c.cleared_over.ensures ∙ c.in_default.is)

pub returns : goal.returns
returns g c =
    let now = g.R.Rng.stream c.loop.rng in
    sym (c.loop.invariant ∙ ap (λ n. element_found n now) (none c.loop.counter c.loop-test.false)
    ∙ nothing_found now ∙ ap (λ (e : Jubjub). (e, now)) (sym c.zero.ensures.group))
  where
    none : (i : ℕ) → 128 ≤ i → 128 - i ≡ 0
    none i l = omega (arith, l)
