use Rattle.std.proofs.Common.{◌∙◌, sym, arith}
use Rattle.std.proofs.lemmas.Bool.{eqb-true, eqb-false}
use Rattle.ark_paths.proofs.MultiStrict.{longest-end, longest-nothing, longest-compared}
use Rattle.ark_paths.proofs.multi_path.strict.is_longest.Goals as goal

pub returns-then-prefix-before : goal.returns-then-prefix-before
returns-then-prefix-before g c = longest-end (λ x. g.D.Numbered.numbers x.now) g.D.Numbered.numbers c.args.before.now
    c.args.suffix.now c.args.prefix c.args.len (sym c.is_sum.ensures ∙ c.if-not-is_sum.false) c.if-prefix-before.true

pub returns-then-is_empty : goal.returns-then-is_empty
returns-then-is_empty g c = c.if-is_empty.true ∙ longest-nothing (λ x. g.D.Numbered.numbers x.now)
    g.D.Numbered.numbers c.args.before.now c.args.suffix.now c.args.prefix c.args.len
    (sym c.is_sum.ensures ∙ c.if-not-is_sum.false) c.if-prefix-before.false
    (eqb-true _ _ (sym c.is_empty.ensures ∙ c.if-is_empty.true))

pub returns-else-is_empty : goal.returns-else-is_empty
returns-else-is_empty g c =
    let some = eqb-false _ _ (sym c.is_empty.ensures ∙ c.if-is_empty.false) in
    c.ne.ensures ∙ longest-compared (λ x. g.D.Numbered.numbers x.now) g.D.Numbered.numbers c.args.before.now
    c.args.suffix.now c.args.prefix c.args.len (sym c.is_sum.ensures ∙ c.if-not-is_sum.false) c.if-prefix-before.false
    c.index-before-prefix.result c.index-suffix-0.result (omega (arith, some)) c.index-suffix-0.is _
    (g.met.D.DigestItem.equal_if_same _ _)
