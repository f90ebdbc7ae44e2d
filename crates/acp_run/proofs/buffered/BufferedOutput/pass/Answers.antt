use Rattle.std.proofs.Common.{take}
use Rattle.acp_run.proofs.HeldBack.{appends_unbuffered}
use Rattle.acp_run.proofs.buffered.BufferedOutput.pass.Goals as goal

pub returns-in-Err-clause-cut : goal.returns-in-Err-clause-cut
returns-in-Err-clause-cut g c = (
  c.in-Err.cut.written,
  rw (c.requires.going, c.requires.empty) (appends_unbuffered
      (g.W.Write.contents c.args.self.now.writer) (g.W.Write.contents c.write_through.new.writer)
      (take c.in-Err.cut.written c.args.bytes.now) c.in-Err.ensures.cut),
)
