use Rattle.acp_run.proofs.Hexadecimal.{AreSpelled}
use Rattle.acp_run.proofs.session.hexadecimal.write_digits.Given as goal

abbrev pub invariant-loop-i : goal.invariant-loop-i
invariant-loop-i l = AreSpelled l.bytes l.digits l.i
