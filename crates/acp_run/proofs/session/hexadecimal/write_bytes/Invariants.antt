use Rattle.acp_run.proofs.Hexadecimal.{IsWritten}
use Rattle.acp_run.proofs.session.hexadecimal.write_bytes.Given as goal

abbrev pub invariant-loop-i : goal.invariant-loop-i
invariant-loop-i l = IsWritten l.digits l.bytes l.i
