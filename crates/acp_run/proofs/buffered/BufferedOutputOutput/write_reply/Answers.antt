use Rattle.std.proofs.Common.{[], ◌∷◌}
use Rattle.std.proofs.lemmas.Result.{on_err_weaker}
use Rattle.acp_run.proofs.Runs.{on_err, front_behind, front_within}
use Rattle.acp_run.proofs.buffered.BufferedOutputOutput.write_reply.Goals as goal

pub returns-in_err-write-clause-cut : goal.returns-in_err-write-clause-cut
returns-in_err-write-clause-cut g c = on_err c.from_residual.result (front_within _ _ c.args.reply.now (10 ∷ [])
    c.in_err-write.ensures.cut)

pub returns-clause-cut : goal.returns-clause-cut
returns-clause-cut g c = on_err_weaker c.write-2.result (front_behind _ _ _ c.args.reply.now (10 ∷ [])
    c.in_ok-write.ensures.whole) c.write-2.ensures.cut
