use Rattle.std.proofs.Common.{◌≡◌}
use Rattle.ark_groups.specs.Group.{times}
use Rattle.test_support.proofs.groups.times.Given as goal

abbrev pub invariant-loop : goal.invariant-loop
invariant-loop g l = l.sum ≡ times g.C.AdditiveGroup.group l.counter l.x
