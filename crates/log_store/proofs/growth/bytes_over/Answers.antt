use Rattle.std.proofs.Common.{◌+◌, length, arith}
use Rattle.merkle_log.proofs.Positions.{count-rises}
use Rattle.log_store.proofs.growth.bytes_over.Goals as goal

pub overflow_sub-count : goal.overflow_sub-count
overflow_sub-count g c = omega (
  arith,
  count-rises c.args.size (c.args.size + length c.args.digests.now) (omega arith),
  c.stored_count.ensures,
  c.stored_count-2.ensures,
)
