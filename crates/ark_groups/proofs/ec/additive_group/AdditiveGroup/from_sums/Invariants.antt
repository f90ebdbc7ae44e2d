use Rattle.std.proofs.Common.{◌≡◌, map, take}
use Rattle.ark_groups.proofs.ec.additive_group.AdditiveGroup.from_sums.Given as goal

abbrev pub invariant-loop-sum : goal.invariant-loop-sum
invariant-loop-sum g l = l.list.items ≡ map g.Self.AdditiveGroup.total (take l.sum-index l.sums)
