use Rattle.std.proofs.Common.{arith}
use Rattle.acp_run.proofs.Hexadecimal.{spelled-all, spelled-first, spelled-next}
use Rattle.acp_run.proofs.session.hexadecimal.write_digits.Goals as goal

pub loop-i-init : goal.loop-i-init
loop-i-init c = spelled-first c.args.bytes.now c.args.digits.now

pub loop-i-preserved : goal.loop-i-preserved
loop-i-preserved c =
    spelled-next c.args.bytes.now c.loop-i.digits c.loop-i.i c.digit_of.result c.digit_of-in-loop-i.result (omega arith)
    (omega arith) c.digit_of.ensures c.digit_of-in-loop-i.ensures c.loop-i.invariant

pub returns : goal.returns
returns c = spelled-all c.args.bytes.now c.loop-i.digits c.loop-i.i (omega arith) (omega arith) c.loop-i.invariant
