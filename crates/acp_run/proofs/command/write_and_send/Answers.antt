use Rattle.acp_run.proofs.Runs.{appends_kept, front_of_all, on_err}
use Rattle.acp_run.proofs.command.write_and_send.Goals as goal

pub returns-clause-cut : goal.returns-clause-cut
returns-clause-cut g c = on_err c.send.result (front_of_all _ _ c.args.text.now
    (appends_kept _ _ _ c.args.text.now c.in_ok-write.ensures.whole c.send.ensures.kept))
