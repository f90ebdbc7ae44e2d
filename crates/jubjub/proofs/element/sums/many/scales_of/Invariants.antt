use Rattle.std.proofs.Common.{◌≡◌, map, take}
use Rattle.jubjub.specs.Sums.{scale_in}
use Rattle.jubjub.proofs.element.sums.many.scales_of.Given as goal

abbrev pub invariant-loop-sum : goal.invariant-loop-sum
invariant-loop-sum l = l.list.items ≡ map scale_in (take l.sum-index l.sums)
