use Rattle.std.proofs.Common.{◌≡◌, drop}
use Rattle.std.specs.List.{list_all}
use Rattle.circom.specs.Hash.{is_element}
use Rattle.circom.proofs.elements.are_elements.Given as goal

abbrev pub invariant-loop-element : goal.invariant-loop-element
invariant-loop-element l =
    list_all is_element l.elements ≡ list_all is_element (drop l.element-index l.elements)
