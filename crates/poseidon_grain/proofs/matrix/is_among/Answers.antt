use Rattle.std.proofs.Common.{◌==◌, ◌||◌, map, sym, ap, ◌∙◌}
use Rattle.std.specs.List.{list_any}
use Rattle.poseidon_grain.proofs.matrix.is_among.Goals as goal

pub returns-then-is_same : goal.returns-then-is_same
returns-then-is_same g c =
    let value = g.F.Valued.value in
    sym (sym c.loop-first.invariant
    ∙ ap (λ xs. list_any (λ y. value c.args.element == y) (map value xs)) c.in-Some.ensures.cases.0
    ∙ ap (λ b. b || list_any (λ y. value c.args.element == y) (map value c.in-Some.behind.now))
    (sym c.is_same.ensures ∙ c.if-is_same.true))

pub loop-first-preserved : goal.loop-first-preserved
loop-first-preserved g c =
    let value = g.F.Valued.value in
    sym (ap (λ xs. list_any (λ y. value c.args.element == y) (map value xs)) c.in-Some.ensures.cases.0
    ∙ ap (λ b. b || list_any (λ y. value c.args.element == y) (map value c.in-Some.behind.now))
    (sym c.is_same.ensures ∙ c.if-is_same.false))
    ∙ c.loop-first.invariant
