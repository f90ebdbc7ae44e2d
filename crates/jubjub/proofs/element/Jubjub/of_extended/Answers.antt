use Rattle.jubjub.specs.Jubjub.{d}
use Rattle.jubjub.specs.Laws.Completeness.{jubjub_is_complete}
use Rattle.jubjub.proofs.GroupLaws.{entry, made_at}
use Rattle.jubjub.proofs.element.Jubjub.of_extended.Goals as goal

pub of-requires : goal.of-requires
of-requires c =
    let (a, s, stands) = c.requires in
    entry c.affine.result.0 c.affine.result.1 a (c.affine.ensures.x d jubjub_is_complete a s.on_curve stands)
    (c.affine.ensures.y d jubjub_is_complete a s.on_curve stands) s

pub returns : goal.returns
returns c = λ a s stands.
    made_at c.of.result c.affine.result.0 c.affine.result.1 a
    (c.affine.ensures.x d jubjub_is_complete a s.on_curve stands)
    (c.affine.ensures.y d jubjub_is_complete a s.on_curve stands) c.of.ensures
