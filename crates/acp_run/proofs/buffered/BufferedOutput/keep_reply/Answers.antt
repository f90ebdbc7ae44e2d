use Rattle.std.proofs.Common.{[], ◌∷◌}
use Rattle.std.proofs.lemmas.Result.{on_err_weaker}
use Rattle.acp_run.proofs.Runs.{front_behind, front_of_none}
use Rattle.acp_run.proofs.buffered.BufferedOutput.keep_reply.Goals as goal

pub returns-clause-cut : goal.returns-clause-cut
returns-clause-cut g c = on_err_weaker c.keep-2.result
    (λ kept. front_behind _ _ _ c.args.reply.now (10 ∷ []) c.in_ok-keep.ensures.whole
    (front_of_none _ _ (10 ∷ []) kept))
    c.keep-2.ensures.kept
