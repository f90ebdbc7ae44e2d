use Rattle.std.proofs.Common.{◌≡◌, ◌^◌, map, take}
use Rattle.ark_groups.specs.Group.{times}
use Rattle.ark_pedersen.specs.Pedersen.{lists_in, iterates}
use Rattle.ark_pedersen.proofs.generators.lists_of.Given as goal

abbrev pub invariant-loop-element : goal.invariant-loop-element
invariant-loop-element g l =
    let next = times g.C.AdditiveGroup.group (2 ^ l.doublings) in
    lists_in l.lists.items ≡ map (iterates next l.size) (take l.element-index l.elements)
