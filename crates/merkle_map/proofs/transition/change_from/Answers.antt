use Rattle.std.proofs.Common.{Ok, map, ap, sym, ◌∙◌, subst}
use Rattle.merkle_map.specs.Parts.{top_shape}
use Rattle.merkle_map.specs.Transition.{change_seen, LeadsOn}
use Rattle.merkle_map.proofs.Changed.{leads-on}
use Rattle.merkle_map.proofs.transition.change_from.Goals as goal

pub change_by_root-requires-clause-kept : goal.change_by_root-requires-clause-kept
change_by_root-requires-clause-kept g c = c.into_top-top.ensures.none (g.H.MapViews.hashes c.args.hasher.now)

pub returns-clause-bound : goal.returns-clause-bound
returns-clause-bound g c =
    let numbers = g.D.Numbered.numbers in
    let h = g.H.MapViews.hashes c.args.hasher.now in
    let root = numbers c.args.root.now in
    let changes = map change_seen c.args.changes.now in
    let first = top_shape numbers c.into_top-top.result in
    subst (λ s. LeadsOn h root s changes c.of_top.result) c.into_top-top.ensures.shape
    (subst (λ after. LeadsOn h root first changes after) (sym (c.of_top.ensures ∙ c.forget_top.ensures.same))
    (leads-on h root changes first (top_shape numbers c.change_by_root.new.tree)
    (c.in_ok-change_by_root.ensures.bound (ap Ok c.if-not-branch.false))
    (c.in_ok-change_by_root.ensures.maps (ap Ok c.if-not-branch.false))))
