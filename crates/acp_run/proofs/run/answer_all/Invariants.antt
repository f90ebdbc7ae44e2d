use Rattle.std.proofs.Common.{◌≡◌, false}
use Rattle.acp_run.specs.Sessions.{LosesFront}
use Rattle.acp_run.proofs.Runs.{Going}
use Rattle.acp_run.proofs.run.answer_all.Given as goal

-- some lines are done
abbrev pub invariant-loop : goal.invariant-loop
invariant-loop g l =
    let left = g.I.Input.remaining in
    let s = g.S.Answering in
    let start = l.initial.session in record {
      going : Going (s.step (s.language start)) (s.state start) l.counter (left l.initial.lines)
          (g.O.Output.contents l.initial.replies) (s.state l.session) (left l.lines) (g.O.Output.contents l.replies);
      same : s.language l.session ≡ s.language start;
      sound : s.is_sound l.session;
      read : LosesFront (left l.initial.lines) (left l.lines);
      reader : g.I.Input.has_failed l.lines ≡ false;
      writer : g.O.Output.has_failed l.replies ≡ false;
    }
