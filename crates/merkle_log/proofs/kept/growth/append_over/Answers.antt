use Rattle.std.proofs.Common.{◌+◌, ◌-◌, length, arith}
use Rattle.std.proofs.lemmas.List.{length-take-le}
use Rattle.merkle_log.proofs.Positions.{count-rises}
use Rattle.merkle_log.proofs.kept.growth.append_over.Goals as goal

pub overflow_sub-made : goal.overflow_sub-made
overflow_sub-made g c =
    let rises = count-rises c.args.size (c.args.size + length c.args.digests.now) (omega arith) in
    omega (arith, c.stored_count.ensures, c.stored_count-2.ensures)

pub grow-requires-clause-room : goal.grow-requires-clause-room
grow-requires-clause-room g c =
    let rises = count-rises c.args.size (c.args.size + length c.args.digests.now) (omega arith) in
    let made = c.stored_count.result - c.stored_count-2.result in
    let long = length-take-le made c.args.more.now
    (omega (arith, c.requires.room, c.stored_count.ensures, c.stored_count-2.ensures)) in
    omega (arith, c.stored_count.ensures, c.stored_count-2.ensures)

pub returns-clause-count : goal.returns-clause-count
returns-clause-count g c =
    let rises = count-rises c.args.size (c.args.size + length c.args.digests.now) (omega arith) in
    omega (arith, c.stored_count.ensures, c.stored_count-2.ensures)
