use Rattle.std.proofs.Common.{arith}
use Rattle.merkle_log.proofs.Positions.{count-rises}
use Rattle.paxidore_c.proofs.log_keeper.more_count.Goals as goal

pub overflow_sub-result : goal.overflow_sub-result
overflow_sub-result c =
    let rises = count-rises c.args.size c.saturating_add-grown.result (omega (
      arith,
      c.saturating_add-grown.ensures,
      c.ranges.size.fits,
    )) in
    omega (arith, c.stored_count.ensures, c.stored_count-2.ensures)
