use Rattle.acp_run.proofs.HeldBack.{keeps_all}
use Rattle.acp_run.proofs.buffered.BufferedOutput.into_inner.Goals as goal

pub returns : goal.returns
returns g c empty = keeps_all _ _ _ empty
