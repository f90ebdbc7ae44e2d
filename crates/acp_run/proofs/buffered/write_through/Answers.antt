use Rattle.std.proofs.Common.{◌≤◌, length, take, drop, arith, length-drop}
use Rattle.std.proofs.lemmas.List.{take_rest}
use Rattle.acp_run.proofs.Runs.{appends_more, appends_kept}
use Rattle.acp_run.proofs.buffered.write_through.Goals.{in-Ok, in-Err+else-ne}
use Rattle.acp_run.proofs.buffered.write_through.Goals as goal

pub loop-preserved : goal.loop-preserved
loop-preserved g c =
    let bytes = c.args.bytes.now in
    let contents = g.W.Write.contents in
    elim c.match-write.branch [
      | in-Ok w ↦ let some : w.in-Ok.more ≤ length (drop c.loop.written bytes) =
          rw (take_rest bytes c.loop.written) at w.in-Ok.ensures.bound in rw w.written-is (record {
            inside = omega (arith, length-drop c.loop.written bytes, c.loop.invariant.inside);
            front = appends_more (contents c.args.writer.now) (contents c.loop.writer) _ bytes c.loop.written
                w.in-Ok.more
                c.loop.invariant.front (rw (take_rest bytes c.loop.written) at w.in-Ok.ensures.bytes);
          })
      | in-Err+else-ne w ↦ rw w.written-is (record {
        inside = c.loop.invariant.inside;
        front = appends_kept (contents c.args.writer.now) (contents c.loop.writer) _ (take c.loop.written bytes)
            c.loop.invariant.front w.in-Err.ensures.bytes;
      })
    ]
