use Rattle.std.proofs.Common.{◌≡◌, map, take}
use Rattle.jubjub.specs.Sums.{total}
use Rattle.jubjub.proofs.element.sums.many.elements_by.Given as goal

abbrev pub invariant-loop-i : goal.invariant-loop-i
invariant-loop-i l = l.list.items ≡ map total (take l.i l.sums)
