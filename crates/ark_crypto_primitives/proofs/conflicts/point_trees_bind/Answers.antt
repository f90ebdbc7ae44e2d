use Rattle.std.proofs.Common.{sym}
use Rattle.ark_base.specs.Laws.Parts.{spelling-alone}
use Rattle.ark_pedersen.proofs.Relations.{positive}
use Rattle.ark_crypto_primitives.proofs.PointConflicts.{points_give}
use Rattle.ark_crypto_primitives.proofs.conflicts.point_trees_bind.Goals as goal

pub returns : goal.returns
returns g c width have =
    let met = g.met.C in
    let canonical = g.C.Canonical in
    points_give g.C.ScalarField.Field.MODULUS (record {
      laws = met.AdditiveGroup.laws;
      positive = positive g.C.ScalarField.Field.modulus_laws;
      kills = met.AdditiveGroup.order;
    }) g.W.Window g.V.Window _ (λ x. canonical.spelling (canonical.view x)) (record {
      are = λ x. sym (met.DigestItem.bytes_are x);
      alone = λ x y same. met.AdditiveGroup.same_view x y (spelling-alone canonical.has_spelling canonical.spelling
          canonical.reads canonical.laws (canonical.view x) (canonical.view y) (met.AdditiveGroup.is_spelled x)
          (met.AdditiveGroup.is_spelled y) same);
    }) width have
