use Rattle.std.proofs.Common.{◌≡◌, ◌+◌, ◌-◌, ap, arith}
use Rattle.std.proofs.lemmas.List.{length-take-le}
use Rattle.merkle_log.specs.Stored.{stored_count}
use Rattle.merkle_log.proofs.Positions.{count-rises}
use Rattle.merkle_log.proofs.kept.growth.parts.join_kept.Goals as goal

pub overflow_sub-made : goal.overflow_sub-made
overflow_sub-made c =
    let rises = count-rises c.size-size.result (c.size-size.result + c.size.result) (omega arith) in
    omega (arith, c.stored_count.ensures, c.stored_count-2.ensures)

pub fill_with_part-requires-clause-room : goal.fill_with_part-requires-clause-room
fill_with_part-requires-clause-room c =
    let size = c.size-size.ensures.size in
    let count = c.size.ensures.size in
    let rises = count-rises c.size-size.result (c.size-size.result + c.size.result) (omega arith) in
    let whole : stored_count (c.size-size.result + c.size.result)
    ≡ stored_count (c.args.kept.now.size + c.args.part.now.size) = ap stored_count (omega (arith, size, count)) in
    let same : stored_count (c.size-size.result + c.size.result)
    ≡ stored_count (c.size-size.result + c.args.part.now.size) = ap stored_count (omega (arith, count)) in
    let made = c.stored_count.result - c.stored_count-2.result in
    let long = length-take-le made c.args.more.now (omega (
      arith,
      c.requires.room,
      c.stored_count.ensures,
      c.stored_count-2.ensures,
      whole,
      ap stored_count size,
      rises,
    )) in
    omega (arith, c.stored_count.ensures, c.stored_count-2.ensures, same, rises, long)

pub returns-clause-count : goal.returns-clause-count
returns-clause-count c =
    let size = c.size-size.ensures.size in
    let rises = count-rises c.size-size.result (c.size-size.result + c.size.result) (omega arith) in
    let whole : stored_count (c.size-size.result + c.size.result)
    ≡ stored_count (c.args.kept.now.size + c.args.part.now.size) =
    ap stored_count (omega (arith, size, c.size.ensures.size)) in
    omega (arith, c.stored_count.ensures, c.stored_count-2.ensures, whole, ap stored_count size, rises)
