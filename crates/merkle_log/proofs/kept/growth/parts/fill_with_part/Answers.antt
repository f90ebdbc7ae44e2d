use Rattle.std.proofs.Common.{◌≡◌, ◌%◌, ◌^◌, ◌≤◌, length, ap, ◌∙◌, arith}
use Rattle.std.proofs.lemmas.Bool.{eqb-true}
use Rattle.merkle_log.specs.Levels.{covering_level}
use Rattle.merkle_log.specs.Stored.{stored_count}
use Rattle.merkle_log.proofs.PartsBehind.{count-adds, part-joined, part-read}
use Rattle.merkle_log.proofs.kept.growth.parts.fill_with_part.Goals as goal

pub put_front-requires : goal.put_front-requires
put_front-requires g c =
    omega (arith, c.stored.ensures.count, c.requires.room, count-adds c.args.size c.args.part.now.size)

pub returns-clause-grows : goal.returns-clause-grows
returns-clause-grows g c = λ leaves entries own total keeps keeps_part.
    let stored = g.R.Rows.stored c.args.rows.now in
    let count = c.args.part.now.size in
    let covered : c.level_covering-level.result ≡ covering_level count =
    c.level_covering-level.ensures.level ∙ ap covering_level c.size.ensures.size in
    let aligned : c.args.size % 2 ^ c.level_covering-level.result ≡ 0 = ap (λ n. c.args.size % 2 ^ n) covered
    ∙ eqb-true (c.args.size % 2 ^ covering_level count) 0 c.requires.aligned in
    let inside : stored_count count ≤ length c.args.part.now.digests =
    rw (c.size.ensures.size) at c.size.ensures.inside in
    let copied = part-read c.args.part.now.digests c.stored.result.now _ c.put_front.new.more (stored_count count)
    c.stored.ensures.digests inside c.put_front.ensures in
    let rises = rw (c.size-2.ensures.size) at c.raise_from.ensures.rises in
    rw (c.requires.size) (part-joined leaves entries stored.digests c.args.part.now.digests c.put_front.new.more
    c.raise_from.new.more c.args.size count c.level_covering-level.result own total keeps keeps_part aligned
    (omega (arith, c.level_covering-level.ensures.covers, c.size.ensures.size))
    (omega (arith, c.requires.room, c.raise_from.ensures.same, c.put_front.auto.more)) copied
    (rw (c.requires.size) at rises) (rw (c.requires.size) at c.raise_from.ensures.leaves))
