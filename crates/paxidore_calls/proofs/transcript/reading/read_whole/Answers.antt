use Rattle.std.proofs.Common.{drop, inr, arith}
use Rattle.std.proofs.lemmas.List.{length-drop}
use Rattle.paxidore_calls.proofs.Whole.{whole-more}
use Rattle.paxidore_calls.proofs.transcript.reading.read_whole.Goals as goal

pub returns-then-used-bytes-clause-given : goal.returns-then-used-bytes-clause-given
returns-then-used-bytes-clause-given g c =
    let rest = drop c.in_ok-value.used c.args.bytes.now in
    inr (whole-more (g.T.Canonical.reads c.args.bytes.now) (g.T.Canonical.view c.in_ok-value.value) rest
    c.in_ok-value.ensures.exact (omega (arith, length-drop c.in_ok-value.used c.args.bytes.now, c.if-used-bytes.true)))
