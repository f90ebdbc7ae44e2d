use Rattle.std.proofs.Common.{◌≡◌, ◌++◌, map, take}
use Rattle.std.specs.List.{flat_map}
use Rattle.ark_groups.specs.Words.{number}
use Rattle.ark_wide_fields.specs.Values.{value}
use Rattle.paxidore_calls.specs.Forms.{scaled_form}
use Rattle.paxidore_calls.proofs.transcript.forms.ScaledElementFormFp256.write_elements.Given as goal

abbrev pub invariant-loop-element : goal.invariant-loop-element
invariant-loop-element g l =
    let m = g.M.WideModulus in
    l.dest.items ≡ l.initial.dest.items
    ++ flat_map (scaled_form (number m.P) m.BITS).spells (map (λ x. value x) (take l.element-index l.elements))
