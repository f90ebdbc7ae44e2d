use Rattle.std.proofs.Common.{◌≡◌, drop}
use Rattle.circom.specs.Frame.{with_digits}
use Rattle.circom.proofs.frame.with_number_bytes.Given as goal

abbrev pub invariant-loop-i : goal.invariant-loop-i
invariant-loop-i l = with_digits l.sum (drop l.i l.bytes) ≡ with_digits l.number (l.bytes)
