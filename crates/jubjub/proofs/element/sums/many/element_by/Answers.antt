use Rattle.std.proofs.Common.{◌∙◌, sym}
use Rattle.jubjub.specs.Jubjub.{d}
use Rattle.jubjub.specs.Extended.{affine_at}
use Rattle.jubjub.specs.Laws.Elements.{same_element}
use Rattle.jubjub.proofs.GroupLaws.{entry, made_at}
use Rattle.jubjub.proofs.Totals.{at-total}
use Rattle.jubjub.proofs.element.sums.many.element_by.Goals as goal

pub of-requires : goal.of-requires
of-requires c =
    let sum = c.args.sum.now in
    let s = sum.inside.in_subgroup in
    entry c.affine_by.result.0 c.affine_by.result.1 (affine_at sum.point)
    (c.affine_by.ensures.x d (affine_at sum.point) s.on_curve sum.inside.stands c.requires)
    (c.affine_by.ensures.y d (affine_at sum.point) s.on_curve sum.inside.stands c.requires) s

pub returns : goal.returns
returns c =
    let sum = c.args.sum.now in
    let s = sum.inside.in_subgroup in
    same_element _ _ (made_at c.of.result c.affine_by.result.0 c.affine_by.result.1 (affine_at sum.point)
    (c.affine_by.ensures.x d (affine_at sum.point) s.on_curve sum.inside.stands c.requires)
    (c.affine_by.ensures.y d (affine_at sum.point) s.on_curve sum.inside.stands c.requires) c.of.ensures
    ∙ sym (at-total sum))
