use Rattle.std.proofs.Common.{◌≡◌, ◌^◌}
use Rattle.ark_groups.specs.Group.{times}
use Rattle.ark_pedersen.proofs.generators.doubled.Given as goal

abbrev pub invariant-loop : goal.invariant-loop
invariant-loop g l =
    let total = g.C.AdditiveGroup.total in
    total l.sum ≡ times g.C.AdditiveGroup.group (2 ^ l.counter) (total l.fn.sum)
