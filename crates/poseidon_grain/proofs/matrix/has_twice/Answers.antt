use Rattle.std.proofs.Common.{◌||◌, map, sym, ap, ◌∙◌}
use Rattle.poseidon_grain.specs.Constants.{has_twice}
use Rattle.poseidon_grain.proofs.Twice.{empty_twice, twice_later}
use Rattle.poseidon_grain.proofs.matrix.has_twice.Goals as goal

pub returns-then-is_among : goal.returns-then-is_among
returns-then-is_among g c =
    let value = g.F.Valued.value in
    sym (sym c.loop-first.invariant
    ∙ ap (λ xs. has_twice (map value xs)) c.in-Some.ensures.cases.0
    ∙ twice_later (value c.in-Some.first.now) (map value c.in-Some.behind.now)
    ∙ ap (λ b. b || has_twice (map value c.in-Some.behind.now)) (sym c.is_among.ensures ∙ c.if-is_among.true))

pub loop-first-preserved : goal.loop-first-preserved
loop-first-preserved g c =
    let value = g.F.Valued.value in
    sym (ap (λ xs. has_twice (map value xs)) c.in-Some.ensures.cases.0
    ∙ twice_later (value c.in-Some.first.now) (map value c.in-Some.behind.now)
    ∙ ap (λ b. b || has_twice (map value c.in-Some.behind.now)) (sym c.is_among.ensures ∙ c.if-is_among.false))
    ∙ c.loop-first.invariant

pub returns : goal.returns
returns g c =
    sym (sym c.loop-first.invariant
    ∙ empty_twice g.F.Valued.value c.loop-first.rest.now c.in_default.ensures.cases)
