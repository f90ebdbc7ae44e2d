use Rattle.std.proofs.Common.{arith}
use Rattle.ark_merkle.proofs.LastLeaves.{rise-end}
use Rattle.ark_merkle.proofs.tree.batch.are_rising.Goals as goal

pub loop-n-init : goal.loop-n-init
loop-n-init g c = (omega arith, rise-end c.args.changes.now)
