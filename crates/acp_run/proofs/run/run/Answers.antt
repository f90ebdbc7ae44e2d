use Rattle.std.proofs.Common.{None}
use Rattle.acp_run.specs.Steps.{LineStep}
use Rattle.acp_run.proofs.Runs.{stops_at_once}
use Rattle.acp_run.proofs.run.run.Goals as goal

pub returns-then-has_failed-clause-stopped : goal.returns-then-has_failed-clause-stopped
returns-then-has_failed-clause-stopped g c = stops_at_once
    (LineStep (g.C.Shell.language c.args.leaf_parameters.now c.args.pair_parameters.now)) None _ _
