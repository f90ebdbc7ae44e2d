use Rattle.std.proofs.Common.{◌≡◌, map, drop}
use Rattle.std.specs.Int.{w64, from_le_bytes}
use Rattle.circom.specs.Frame.{with_digits}
use Rattle.circom.proofs.frame.with_words.Given as goal

abbrev pub invariant-loop-i : goal.invariant-loop-i
invariant-loop-i l =
    with_digits l.sum (map (from_le_bytes w64) (drop l.i l.words))
    ≡ with_digits l.number (map (from_le_bytes w64) l.words)
