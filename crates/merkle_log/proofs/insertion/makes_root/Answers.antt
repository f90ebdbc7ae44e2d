use Rattle.std.proofs.Common.{◌∙◌, map, arith}
use Rattle.std.proofs.lemmas.List.{length-map}
use Rattle.merkle_log.proofs.Givens.{given_on}
use Rattle.merkle_log.proofs.Inserting.{made-gives, made-refused, none-made, some-ones}
use Rattle.merkle_log.proofs.insertion.makes_root.Goals as goal

pub returns-then-size-eq0-clause-made : goal.returns-then-size-eq0-clause-made
returns-then-size-eq0-clause-made g c =
    none-made (g.H.NodeHasher.hash c.args.hasher.now) (g.D.Numbered.numbers c.args.old_root.now) c.args.size
    (map g.D.Numbered.numbers c.args.peaks.now) (length-map c.args.peaks.now g.D.Numbered.numbers ∙ c.requires)
    c.if-size-eq0.true

pub returns-in_err-hashed-clause-made : goal.returns-in_err-hashed-clause-made
returns-in_err-hashed-clause-made g c =
    let old = g.D.Numbered.numbers c.args.old_root.now in
    given_on _ _ _ c.from_residual.result c.in_err-hashed.field-0.0 c.from_residual.ensures.1
    (c.in_err-hashed.ensures.hashed old) (λ refused. made-refused (g.H.NodeHasher.hash c.args.hasher.now) old
    c.args.size (map g.D.Numbered.numbers c.args.peaks.now) c.levels_above.result c.levels_above.ensures.covers refused)

pub first_known-requires : goal.first_known-requires
first_known-requires g c = omega (arith, c.requires, some-ones c.args.size (omega (arith, c.if-size-eq0.false)))

pub returns-clause-made : goal.returns-clause-made
returns-clause-made g c =
    let old = g.D.Numbered.numbers c.args.old_root.now in
    made-gives (g.H.NodeHasher.hash c.args.hasher.now) old
    c.args.size (map g.D.Numbered.numbers c.args.peaks.now) c.levels_above.result c.levels_above.ensures.covers
    (c.in_ok-hashed.ensures.hashed old) (c.first_known.ensures old) c.are_same.ensures
