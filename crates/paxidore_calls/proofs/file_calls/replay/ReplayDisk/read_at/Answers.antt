use Rattle.std.proofs.Common.{length, arith}
use Rattle.log_file.proofs.Pieces.{piece-before}
use Rattle.paxidore_calls.proofs.file_calls.replay.ReplayDisk.read_at.Goals as goal

pub returns-then-at-step : goal.returns-then-at-step
returns-then-at-step g c = λ obeys inside.
    let step = c.in_ok-step.step.now in
    rw (
      c.in_ok-step.ensures.only,
      piece-before g.F.Held.file step.bytes.items step.at c.args.at (length c.args.into.now)
          (omega (arith, c.if-at-step.true, c.if-into-step.false))
          (omega (arith, c.in_ok-step.ensures.inside, obeys.1)),
    ) (c.read_piece-then-at-step.ensures.piece obeys.0)
