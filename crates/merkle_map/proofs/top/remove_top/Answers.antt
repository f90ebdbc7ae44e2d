use Rattle.std.proofs.Common.{[], OnOk, subst, sym}
use Rattle.ark_base.specs.Laws.Steps.{done_injective}
use Rattle.ark_base.specs.Outcome.{AnswersBy}
use Rattle.ark_base.specs.declared.error.Error.{Error}
use Rattle.merkle_map.specs.Changes.{tree_without}
use Rattle.merkle_map.specs.Kept.{IsTopKept}
use Rattle.merkle_map.specs.Map.{without}
use Rattle.merkle_map.specs.Parts.{shape, top_shape}
use Rattle.merkle_map.specs.Shown.{FollowsBy}
use Rattle.merkle_map.specs.Tree.{StandsAt}
use Rattle.merkle_map.proofs.Answered.{answers_exactly}
use Rattle.merkle_map.proofs.Calls.{without-follows, without-stands}
use Rattle.merkle_map.proofs.top.remove_top.Goals as goal

pub returns-in_ok-nothing-in-Shown-clause-stands :
    goal.returns-in_ok-nothing-in-Shown-clause-stands
returns-in_ok-nothing-in-Shown-clause-stands g c =
    let numbers = g.D.Numbered.numbers in
    let nothing = numbers c.in_ok-nothing-in-Shown.nothing in
    let old = shape numbers c.in-Shown.part in
    let new = shape numbers c.remove_from.new.part in
    without-stands nothing c.args.key.now old new c.remove_from.result
    (answers_exactly new (tree_without nothing c.args.key.now old) c.remove_from.result c.remove_from.ensures.changed)
    c.remove_from.ensures.kept (subst (λ t. StandsAt [] (top_shape numbers t)) c.in-Shown.is c.requires)

pub returns-in_ok-nothing-in-Shown-clause-maps : goal.returns-in_ok-nothing-in-Shown-clause-maps
returns-in_ok-nothing-in-Shown-clause-maps g c =
    let numbers = g.D.Numbered.numbers in
    let h = g.H.MapViews.hashes c.args.hasher.now in
    let key = c.args.key.now in
    let old = shape numbers c.in-Shown.part in
    let new = shape numbers c.remove_from.new.part in
    let is = done_injective {E = Error} h.nothing (numbers c.in_ok-nothing-in-Shown.nothing)
    c.in_ok-nothing-in-Shown.ensures in
    subst (λ t. OnOk c.remove_from.result (FollowsBy h (without key) (top_shape numbers t) new)) (sym c.in-Shown.is)
    (without-follows h key old new c.remove_from.result
    (subst (λ nothing. AnswersBy (λ _. new) (tree_without nothing key old) c.remove_from.result) (sym is)
    (answers_exactly new (tree_without (numbers c.in_ok-nothing-in-Shown.nothing) key old) c.remove_from.result
    c.remove_from.ensures.changed)))

pub returns-in_ok-nothing-in-Shown-clause-digests : goal.returns-in_ok-nothing-in-Shown-clause-digests
returns-in_ok-nothing-in-Shown-clause-digests g c = λ h kept.
    c.remove_from.ensures.digests h (subst (IsTopKept g.D.Numbered.numbers h) c.in-Shown.is kept)
