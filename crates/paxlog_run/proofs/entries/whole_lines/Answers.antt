use Rattle.std.proofs.Common.{arith}
use Rattle.std.proofs.lemmas.List.{take_rest}
use Rattle.paxlog_run.proofs.Lines.{lines_of-few, whole-all, whole-next, whole-none}
use Rattle.paxlog_run.proofs.entries.whole_lines.Goals as goal

pub lines-init : goal.lines-init
lines-init c = record { whole = whole-none c.args.bytes.now; few = omega arith }

pub returns-in_default-clause-lines : goal.returns-in_default-clause-lines
returns-in_default-clause-lines c = whole-all c.args.bytes.now c.lines.end c.lines.count c.lines.invariant.whole

pub returns-in_default-clause-all : goal.returns-in_default-clause-all
returns-in_default-clause-all c = λ fewer.
    let none = rw (take_rest c.args.bytes.now c.lines.end) at c.in_default.ensures in
    lines_of-few _ (λ k lt here. none k (omega arith) lt here)

pub lines-preserved : goal.lines-preserved
lines-preserved c =
    let first = rw (take_rest c.args.bytes.now c.lines.end) at c.in-Some.ensures in
    record {
      whole = whole-next c.args.bytes.now c.lines.end c.lines.count c.in-Some.at c.lines.invariant.whole
          first.0.high first.1 (λ k lt here. first.0.before k (omega arith) lt here);
      few = omega (arith, c.lines-test.true);
    }

pub returns-clause-lines : goal.returns-clause-lines
returns-clause-lines c = whole-all c.args.bytes.now c.lines.end c.lines.count c.lines.invariant.whole
