use Rattle.std.proofs.Common.{◌-◌, ◌*◌, sym}
use Rattle.ark_paths.proofs.Logs.{log2-between}
use Rattle.merkle_log.proofs.PartsBehind.{covering-none}
use Rattle.merkle_log.proofs.kept.growth.parts.level_covering.Goals as goal

pub returns-then-count-eq0-clause-level : goal.returns-then-count-eq0-clause-level
returns-then-count-eq0-clause-level c = covering-none c.args.count c.if-count-eq0.true

pub returns-clause-level : goal.returns-clause-level
returns-clause-level c =
    sym (log2-between c.ilog2.result (2 * c.args.count - 1) c.ilog2.ensures.power_le c.ilog2.ensures.next_power_gt)
