use Rattle.std.proofs.Common.{◌≤◌, ◌+◌, ◌^◌, ◌∙◌, length, map, arith}
use Rattle.std.proofs.lemmas.List.{length-map}
use Rattle.merkle_log.proofs.Givens.{given_on}
use Rattle.merkle_log.proofs.Inserting.{known-levels, some-known}
use Rattle.merkle_log.proofs.insertion.root_over.Goals as goal

pub returns-in_err-root : goal.returns-in_err-root
returns-in_err-root g c =
    let old = g.D.Numbered.numbers c.args.old_root.now in
    let numbers = g.D.Numbered.numbers in
    let low : c.args.size + length (map numbers c.args.more.now) ≤ 2 ^ c.levels_above.result = omega
    (arith, c.levels_above.ensures.covers, length-map c.args.more.now numbers) in
    given_on _ _ _ c.from_residual.result c.in_err-root.field-0.0 c.from_residual.ensures.1
    (c.in_err-root.ensures.hashed old) (λ refused. known-levels (g.H.NodeHasher.hash c.args.hasher.now) old
    c.levels_above.result c.args.size (map numbers c.args.peaks.now) (map numbers c.args.more.now) low ∙ refused)

pub first_known-requires : goal.first_known-requires
first_known-requires g c =
    omega (
      arith,
      c.requires.peaks,
      some-known c.args.size (length c.args.more.now) (omega (arith, c.if-total-eq0.false)),
    )

pub returns-in-Some : goal.returns-in-Some
returns-in-Some g c =
    let old = g.D.Numbered.numbers c.args.old_root.now in
    let numbers = g.D.Numbered.numbers in
    let low : c.args.size + length (map numbers c.args.more.now) ≤ 2 ^ c.levels_above.result = omega
    (arith, c.levels_above.ensures.covers, length-map c.args.more.now numbers) in
    known-levels (g.H.NodeHasher.hash c.args.hasher.now) old
    c.levels_above.result c.args.size (map numbers c.args.peaks.now) (map numbers c.args.more.now) low
    ∙ (rw (c.in-Some.is) at (c.in_ok-root.ensures.hashed old))

pub returns-in-None : goal.returns-in-None
returns-in-None g c =
    let old = g.D.Numbered.numbers c.args.old_root.now in
    let numbers = g.D.Numbered.numbers in
    let low : c.args.size + length (map numbers c.args.more.now) ≤ 2 ^ c.levels_above.result = omega
    (arith, c.levels_above.ensures.covers, length-map c.args.more.now numbers) in
    rw (
      known-levels (g.H.NodeHasher.hash c.args.hasher.now) old
          c.levels_above.result c.args.size (map numbers c.args.peaks.now) (map numbers c.args.more.now) low
          ∙ (rw (c.in-None.is) at (c.in_ok-root.ensures.hashed old)),
      ← c.first_known.ensures old,
    ) c.copied-in-None.ensures
