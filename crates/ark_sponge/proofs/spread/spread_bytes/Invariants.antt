use Rattle.std.proofs.Common.{length, take, map}
use Rattle.ark_base.specs.Digits.{bytes_of_number}
use Rattle.ark_sponge.proofs.Spreads.{IsFilled}
use Rattle.ark_sponge.proofs.spread.spread_bytes.Given as goal

abbrev pub invariant-loop-element : goal.invariant-loop-element
invariant-loop-element g l =
    IsFilled (bytes_of_number l.size) l.size (length l.initial.out)
    (map g.F.Valued.value (take l.element-index l.elements)) l.done l.out
