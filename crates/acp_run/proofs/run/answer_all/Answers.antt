use Rattle.std.proofs.Common.{◌≡◌, ◌<◌, ◌∙◌, ◌^◌, ◌-◌, length, refl, inr, arith}
use Rattle.acp_run.proofs.Runs.{going_from_start, going_on, going_to_end, stops_here, stops_within, halts_here, halts_full, kept_front, kept_then, keeps_self, keeps_both, loses_none, loses_both, on_ok, on_err}
use Rattle.acp_run.proofs.run.answer_all.Goals as goal

pub loop-init : goal.loop-init
loop-init g c = record {
  going = going_from_start (g.S.Answering.step (g.S.Answering.language c.args.session.now))
      (g.S.Answering.state c.args.session.now) _ _;
  same = refl;
  sound = c.requires.sound;
  read = loses_none _;
  reader = c.requires.reader;
  writer = c.requires.writer;
}

pub returns-in_err-read_line-clause-stopped : goal.returns-in_err-read_line-clause-stopped
returns-in_err-read_line-clause-stopped g c = on_err c.from_residual.result
    (stops_here (g.S.Answering.step (g.S.Answering.language c.args.session.now))
    (g.S.Answering.state c.args.session.now) _ _ _ _ _ _ _ c.loop.invariant.going c.read_line.ensures.kept)

pub returns-in_err-reply-clause-stopped : goal.returns-in_err-reply-clause-stopped
returns-in_err-reply-clause-stopped g c = on_err c.from_residual-in_err-reply.result
    (stops_here (g.S.Answering.step (g.S.Answering.language c.args.session.now))
    (g.S.Answering.state c.args.session.now) _ _ _ _ _ _ _ c.loop.invariant.going c.read_line.ensures.kept)

pub returns-in_err-reply-clause-why : goal.returns-in_err-reply-clause-why
returns-in_err-reply-clause-why g c =
    let line = c.read_line.new.line.items in
    let some : 0 < length line = c.in_ok-read_line.ensures.some c.if-not-branch.false in
    on_err c.from_residual-in_err-reply.result (inr (inr
    (halts_here (g.S.Answering.step (g.S.Answering.language c.args.session.now)) (g.S.Answering.state
    c.args.session.now) _ _ _ _ _ _ _ line _ c.loop.invariant.going some c.in_ok-read_line.ensures.line
    c.in_err-reply.ensures.lacks c.read_line.ensures.kept)))

pub returns-in_err-read_line-clause-read : goal.returns-in_err-read_line-clause-read
returns-in_err-read_line-clause-read g c = loses_both _ _ _ c.loop.invariant.read c.read_line.ensures.read

pub returns-in_err-reply-clause-read : goal.returns-in_err-reply-clause-read
returns-in_err-reply-clause-read g c = loses_both _ _ _ c.loop.invariant.read c.read_line.ensures.read

pub returns-in_err-write_reply-clause-read : goal.returns-in_err-write_reply-clause-read
returns-in_err-write_reply-clause-read g c = loses_both _ _ _ c.loop.invariant.read c.read_line.ensures.read

pub returns-then-not-branch-clause-read : goal.returns-then-not-branch-clause-read
returns-then-not-branch-clause-read g c = loses_both _ _ _ c.loop.invariant.read c.read_line.ensures.read

pub returns-then-not-branch-clause-served : goal.returns-then-not-branch-clause-served
returns-then-not-branch-clause-served g c = on_ok c.send.result (going_to_end (g.S.Answering.step
    (g.S.Answering.language c.args.session.now)) (g.S.Answering.state c.args.session.now) _ _ _ _ _ _ _
    c.loop.invariant.going (c.in_ok-read_line.ensures.end c.if-not-branch.true)
    (keeps_both _ _ _ c.read_line.ensures.kept c.send.ensures.kept))

pub returns-then-not-branch-clause-stopped : goal.returns-then-not-branch-clause-stopped
returns-then-not-branch-clause-stopped g c = on_err c.send.result (stops_here (g.S.Answering.step
    (g.S.Answering.language c.args.session.now)) (g.S.Answering.state c.args.session.now) _ _ _ _ _ _ _
    c.loop.invariant.going (keeps_both _ _ _ c.read_line.ensures.kept c.send.ensures.kept))

pub returns-in_err-write_reply-clause-stopped : goal.returns-in_err-write_reply-clause-stopped
returns-in_err-write_reply-clause-stopped g c =
    let line = c.read_line.new.line.items in
    let some : 0 < length line = c.in_ok-read_line.ensures.some c.if-not-branch.false in
    on_err c.from_residual-in_err-write_reply.result (stops_within
    (g.S.Answering.step (g.S.Answering.language c.args.session.now)) (g.S.Answering.state c.args.session.now) _ _ _ _ _
    _ _ _ line _ c.loop.invariant.going some c.in_ok-read_line.ensures.line
    (rw (c.loop.invariant.same, c.without_line_feed.ensures, c.deref.ensures.value) at c.in_ok-reply.ensures.step)
    (kept_front _ _ _ _ c.read_line.ensures.kept
    (rw c.deref-in-loop.ensures.value at c.in_err-write_reply.ensures.cut)))

pub loop-preserved : goal.loop-preserved
loop-preserved g c =
    let line = c.read_line.new.line.items in
    let some : 0 < length line = c.in_ok-read_line.ensures.some c.if-not-branch.false in record {
      going = going_on (g.S.Answering.step (g.S.Answering.language c.args.session.now))
          (g.S.Answering.state c.args.session.now) _ _ _ _ _ _ _ _ _ line _ c.loop.invariant.going some
          c.in_ok-read_line.ensures.line c.in_ok-read_line.ensures.rest
          (rw (c.loop.invariant.same, c.without_line_feed.ensures, c.deref.ensures.value) at c.in_ok-reply.ensures.step)
          (kept_then _ _ _ _ c.read_line.ensures.kept
          (rw c.deref-in-loop.ensures.value at c.in_ok-write_reply.ensures.whole));
      same = c.answer.ensures.same ∙ c.loop.invariant.same;
      sound = c.answer.ensures.sound;
      read = loses_both _ _ _ c.loop.invariant.read c.read_line.ensures.read;
      reader = c.in_ok-read_line.ensures.going.0;
      writer = c.in_ok-write_reply.ensures.failed;
    }

pub returns-clause-stopped : goal.returns-clause-stopped
returns-clause-stopped g c = stops_here (g.S.Answering.step (g.S.Answering.language c.args.session.now))
    (g.S.Answering.state c.args.session.now) _ _ _ _ _ _ _ c.loop.invariant.going (keeps_self _)

pub returns-clause-why : goal.returns-clause-why
returns-clause-why g c =
    let full : c.loop.counter ≡ 2 ^ 64 - 1 = omega (arith, c.loop-test.false, c.loop.auto.counter-end) in
    inr (inr (halts_full (g.S.Answering.step (g.S.Answering.language c.args.session.now)) (g.S.Answering.state
    c.args.session.now) _ _ _ _ _ _ _ c.loop.invariant.going full))
