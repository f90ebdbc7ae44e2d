use Rattle.std.proofs.Common.{map, arith}
use Rattle.ark_pedersen.proofs.Relations.{positive, answered, answers_give, is_relation, same_inputs}
use Rattle.ark_pedersen.proofs.binding.relation_of.Goals as goal

pub returns-clause-relation : goal.returns-clause-relation
returns-clause-relation g c =
    let r = g.C.ScalarField.Field.MODULUS in
    let left = c.args.left.now in
    let right = c.args.right.now in
    answers_give _ _ _ c.coefficients_of.result c.coefficients_of.ensures (λ found exact.
    let coefficients = map g.C.ScalarField.Valued.value found.items in
    let a = answered r g.W.Window left right coefficients exact in
    is_relation g.met.C.AdditiveGroup.laws r (positive g.C.ScalarField.Field.modulus_laws)
    g.met.C.AdditiveGroup.order g.W.Window left right coefficients a.left_in a.right_in a.are)

pub returns-clause-some : goal.returns-clause-some
returns-clause-some g c =
    let r = g.C.ScalarField.Field.MODULUS in
    let left = c.args.left.now in
    let right = c.args.right.now in
    answers_give _ _ _ c.coefficients_of.result c.coefficients_of.ensures (λ found exact.
    let coefficients = map g.C.ScalarField.Valued.value found.items in
    let a = answered r g.W.Window left right coefficients exact in
    same_inputs {G = g.row.C.Denot} g.met.C.AdditiveGroup.laws r
    (positive g.C.ScalarField.Field.modulus_laws) g.met.C.AdditiveGroup.order g.W.Window left right
    coefficients a.left_in a.right_in a.are a.fits (λ i. omega (arith, c.type_inv.left i))
    (λ i. omega (arith, c.type_inv.right i)))
