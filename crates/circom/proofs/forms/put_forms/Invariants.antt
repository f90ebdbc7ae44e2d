use Rattle.std.proofs.Common.{◌≡◌, ◌++◌, map, take}
use Rattle.ark_groups.specs.Words.{number}
use Rattle.ark_wide_fields.specs.Moduli.{value_of}
use Rattle.circom.specs.Elements.{form_bytes}
use Rattle.circom.proofs.forms.put_forms.Given as goal

abbrev pub invariant-loop-element : goal.invariant-loop-element
invariant-loop-element g l =
    let m = g.M.WideModulus in
    l.bytes.items ≡ l.initial.bytes.items
    ++ form_bytes (number m.P) (map (λ x. value_of m.P m.INVERSE x.form) (take l.element-index l.elements))
