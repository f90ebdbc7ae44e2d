use Rattle.std.proofs.Common.{arith}
use Rattle.merkle_log.proofs.LaidRows.{laid-end, laid-some}
use Rattle.merkle_log.proofs.laying.lay_rows.Goals as goal

pub lay_next-requires-clause-some : goal.lay_next-requires-clause-some
lay_next-requires-clause-some g c = laid-some c.leaves.invariant c.args.count c.requires.rows c.leaves-test.true

pub returns-clause-laid : goal.returns-clause-laid
returns-clause-laid g c = laid-end c.leaves.invariant c.args.count c.requires.rows (omega arith)
