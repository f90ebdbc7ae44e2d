use Rattle.std.proofs.lemmas.Result.{on_err_weaker}
use Rattle.acp_run.proofs.Runs.{kept_front}
use Rattle.acp_run.proofs.buffered.BufferedOutputOutput.write.Goals as goal

pub returns-clause-cut : goal.returns-clause-cut
returns-clause-cut g c = on_err_weaker c.pass.result
    (kept_front _ _ _ c.args.bytes.now c.in_ok-pass_buffer.ensures.kept) c.pass.ensures.cut
