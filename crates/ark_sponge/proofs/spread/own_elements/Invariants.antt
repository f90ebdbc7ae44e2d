use Rattle.std.proofs.Common.{◌≡◌, length, take, map}
use Rattle.ark_sponge.proofs.spread.own_elements.Given as goal

abbrev pub invariant-loop-i : goal.invariant-loop-i
invariant-loop-i g l =
    (length l.out ≡ length l.elements) × (map g.G.Valued.value (take l.i l.out) ≡ map g.F.Valued.value
    (take l.i l.elements))
