use Rattle.std.proofs.Common.{subst}
use Rattle.ark_base.specs.Outcome.{AnswersBy}
use Rattle.merkle_map.specs.Map.{root_of_map}
use Rattle.merkle_map.specs.Parts.{shape}
use Rattle.merkle_map.proofs.Answered.{answers_as}
use Rattle.merkle_map.proofs.Wholes.{root-of-store}
use Rattle.merkle_map.proofs.kept.KeptMap.root.Goals as goal

pub returns-clause-root : goal.returns-clause-root
returns-clause-root g c =
    let numbers = g.H.Output.Numbered.numbers in
    subst (λ map. AnswersBy numbers (root_of_map (g.H.MapViews.hashes map.hasher) map.entries) c.fill_together.result)
    c.self.view_is
    (answers_as numbers _ _ c.fill_together.result (root-of-store (g.H.MapViews.hashes c.self.inside.hasher)
    (shape numbers c.self.inside.top) c.self.invariant.stands c.self.invariant.whole) c.fill_together.ensures.digest)

pub returns-then-are_few-clause-root : goal.returns-then-are_few-clause-root
returns-then-are_few-clause-root g c =
    let numbers = g.H.Output.Numbered.numbers in
    subst (λ map. AnswersBy numbers (root_of_map (g.H.MapViews.hashes map.hasher) map.entries) c.fill.result)
    c.self.view_is
    (answers_as numbers _ _ c.fill.result (root-of-store (g.H.MapViews.hashes c.self.inside.hasher)
    (shape numbers c.self.inside.top) c.self.invariant.stands c.self.invariant.whole) c.fill.ensures.digest)
