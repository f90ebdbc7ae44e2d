use Rattle.std.proofs.Common.{◌≡◌, List, get_or, map, sym, ap, ◌∙◌}
use Rattle.jubjub.specs.declared.element.Jubjub.{Jubjub}
use Rattle.jubjub.specs.Elements.{jubjub}
use Rattle.jubjub.specs.Sums.{total}
use Rattle.jubjub.specs.Tables.{rows_of}
use Rattle.jubjub.proofs.TableRows.{first_is}
use Rattle.jubjub.proofs.element.sums.table.JubjubFixedBaseGroup.table.Goals as goal

-- the element is the first of its rows
at_first : (xs : List Jubjub) (x : Jubjub) → xs ≡ rows_of 51 x → get_or xs 0 jubjub.identity ≡ x
at_first xs x are = ap (λ l. get_or l 0 jubjub.identity) are ∙ first_is x

pub invariant_of-result : goal.invariant_of-result
invariant_of-result c =
    let are = c.in_ok-elements_of_sums.ensures.made ∙ ap (map total) c.deref.ensures.value
    ∙ c.in_ok-multiples_of.ensures.made in
    are ∙ ap (rows_of 51) (sym (at_first c.in_ok-elements_of_sums.field-0.items c.args.self are))

pub returns-clause-made : goal.returns-clause-made
returns-clause-made c =
    at_first c.in_ok-elements_of_sums.field-0.items c.args.self
    (c.in_ok-elements_of_sums.ensures.made ∙ ap (map total) c.deref.ensures.value ∙ c.in_ok-multiples_of.ensures.made)
