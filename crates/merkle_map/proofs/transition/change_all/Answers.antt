use Rattle.std.proofs.Common.{[], get_or, arith}
use Rattle.std.proofs.lemmas.List.{get_or_default}
use Rattle.ark_base.proofs.Refusals.{passed_on}
use Rattle.merkle_map.specs.Parts.{top_shape}
use Rattle.merkle_map.specs.Transition.{change_seen}
use Rattle.merkle_map.specs.declared.transition.Change.TheVariants.{Put}
use Rattle.merkle_map.proofs.Changed.{made-next, made-error}
use Rattle.merkle_map.proofs.transition.change_all.Goals as goal

pub returns-in_err-change_tree-clause-changed : goal.returns-in_err-change_tree-clause-changed
returns-in_err-change_tree-clause-changed g c =
    let numbers = g.D.Numbered.numbers in
    let changes = c.args.changes.now in
    let change = get_or changes c.changes.change-index (Put [] []) in
    passed_on _ _ c.from_residual.result c.in_err-change_tree.field-0.0 c.from_residual.ensures.1
    c.in_err-change_tree.ensures.changed
    (λ why. made-error (g.H.MapViews.hashes c.args.hasher.now) change_seen changes (top_shape numbers c.args.tree.now)
    c.changes.change-index change (top_shape numbers c.changes.tree) (omega arith)
    (get_or_default changes c.changes.change-index (Put [] []) change (omega arith)) c.changes.invariant.0
    c.in_err-change_tree.field-0.0 why)

pub changes-preserved : goal.changes-preserved
changes-preserved g c =
    let numbers = g.D.Numbered.numbers in
    let changes = c.args.changes.now in
    let change = get_or changes c.changes.change-index (Put [] []) in (
      made-next (g.H.MapViews.hashes c.args.hasher.now) change_seen changes (top_shape numbers c.args.tree.now)
          c.changes.change-index change (top_shape numbers c.changes.tree) (omega arith)
          (get_or_default changes c.changes.change-index (Put [] []) change (omega arith)) c.changes.invariant.0
          (top_shape numbers c.change_tree.new.tree) c.in_ok-change_tree.ensures.changed
          c.in_ok-change_tree.ensures.maps,
      c.change_tree.ensures.stands,
      λ h kept. c.change_tree.ensures.digests h (c.changes.invariant.2 h kept),
    )
