use Rattle.std.proofs.Common.{arith}
use Rattle.edwards.proofs.SignedDigits.{blank_behind, blank_before}
use Rattle.edwards.proofs.public.highest.Goals as goal

pub loop-i-init : goal.loop-i-init
loop-i-init c = record {
  within = omega arith;
  first = blank_behind c.args.m.now 257 (omega arith);
  second = blank_behind c.args.n.now 257 (omega arith);
}

pub loop-i-preserved : goal.loop-i-preserved
loop-i-preserved c =
    let before = c.loop-i.invariant in
    record {
      within = omega arith;
      first = blank_before c.args.m.now c.loop-i.i (omega arith) (omega arith) c.if-m-i-eq0.true before.first;
      second = blank_before c.args.n.now c.loop-i.i (omega arith) (omega arith) c.if-n-i-eq0.true before.second;
    }
