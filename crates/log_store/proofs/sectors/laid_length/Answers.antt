use Rattle.std.proofs.Common.{arith}
use Rattle.log_store.proofs.Laid.{laid-long}
use Rattle.log_store.proofs.sectors.laid_length.Goals as goal

pub returns : goal.returns
returns c = λ file is. omega (
  arith,
  is,
  c.saturating_sub.ensures,
  laid-long c.args.layout file (c.is_dense.ensures.spread c.if-is_dense.false),
)
