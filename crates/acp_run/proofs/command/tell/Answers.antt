use Rattle.acp_run.proofs.Runs.{front_either}
use Rattle.acp_run.proofs.command.tell.Goals as goal

pub returns-then-not-has_failed-clause-front : goal.returns-then-not-has_failed-clause-front
returns-then-not-has_failed-clause-front g c = front_either c.write_and_send.result _ _ c.args.text.now
    c.write_and_send.ensures.whole c.write_and_send.ensures.cut
