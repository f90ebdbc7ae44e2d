use Rattle.std.proofs.Common.{map, ap, sym, ◌∙◌, arith}
use Rattle.ark_sponge.specs.Permutation.{matrix_product}
use Rattle.ark_sponge.proofs.poseidon.recurrence.making.takes_back.Goals as goal

pub returns : goal.returns
returns g c same xs long below =
    let f = g.F.Valued.value in
    let p = g.F.Field.MODULUS in
    let rows = sym (ap (map (λ row. map f row.items)) c.deref.ensures.value) ∙ c.are_same.ensures same
    ∙ ap (map (λ row. map f row.items)) c.deref-2.ensures.value in
    sym (c.in-Ok.ensures xs) ∙ ap (λ m. matrix_product p m xs) rows
    ∙ c.in-Ok-unit_rows.ensures xs (omega (arith, long)) below
