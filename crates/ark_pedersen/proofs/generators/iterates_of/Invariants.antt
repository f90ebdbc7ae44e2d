use Rattle.std.proofs.Common.{◌≡◌, ◌-◌, ◌^◌, ◌++◌, map}
use Rattle.ark_groups.specs.Group.{times}
use Rattle.ark_pedersen.specs.Pedersen.{iterates}
use Rattle.ark_pedersen.proofs.generators.iterates_of.Given as goal

-- what was put, and what is still to be put, are the whole
abbrev pub invariant-loop : goal.invariant-loop
invariant-loop g l =
    let next = times g.C.AdditiveGroup.group (2 ^ l.doublings) in
    let total = g.C.AdditiveGroup.total in
    map total l.sums.items ++ iterates next (l.count - l.counter) (total l.last) ≡ iterates next l.count l.fn.element
