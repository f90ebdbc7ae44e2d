use Rattle.std.proofs.Common.{◌+◌, arith, add-one}
use Rattle.std.proofs.lemmas.List.{take_rest, length-drop}
use Rattle.paxlog_run.proofs.Lines.{lines_of-one, lines_of-cut}
use Rattle.paxlog_run.proofs.entries.line_and_rest.Goals as goal

pub returns-in-None : goal.returns-in-None
returns-in-None c = (
  lines_of-one c.args.bytes.now (omega (arith, c.if-bytes-eq0.false)) (λ k lt here. c.in-None.ensures k (omega arith)
      lt here),
  omega (arith, c.if-bytes-eq0.false),
)

pub returns-in-Some : goal.returns-in-Some
returns-in-Some c =
    let xs = c.args.bytes.now in
    let i = c.in-Some.end in
    let cut = lines_of-cut xs i c.in-Some.ensures.0.high c.in-Some.ensures.1 (λ k lt here. c.in-Some.ensures.0.before k
    (omega arith) lt here) in
    rw (take_rest xs (i + 1)) (rw add-one cut, omega (arith, length-drop (i + 1) xs, c.in-Some.ensures.0.high))
