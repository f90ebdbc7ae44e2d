use Rattle.std.proofs.Common.{Ok, map, ap, subst}
use Rattle.merkle_map.specs.Bytes.{itself}
use Rattle.merkle_map.specs.Parts.{top_shape}
use Rattle.merkle_map.specs.Transition.{change_seen, LeadsTo}
use Rattle.merkle_map.proofs.Changed.{leads-on}
use Rattle.merkle_map.proofs.transition.rows_after.Goals as goal

pub change_by_root-requires-clause-kept : goal.change_by_root-requires-clause-kept
change_by_root-requires-clause-kept g c = c.into_top-top.ensures.none (g.H.MapViews.hashes c.args.hasher.now)

pub returns-clause-bound : goal.returns-clause-bound
returns-clause-bound g c =
    let h = g.H.MapViews.hashes c.args.hasher.now in
    let root = c.args.root.now in
    let new = c.in_ok-made.made.0 in
    let changes = map change_seen c.args.changes.now in
    subst (λ s. LeadsTo h root new s changes) c.into_top-top.ensures.shape
    (leads-on h root changes (top_shape itself c.into_top-top.result) (top_shape itself c.change_by_root.new.tree)
    (c.in_ok-change_by_root.ensures.bound (ap Ok c.if-not-branch.false))
    (c.in_ok-change_by_root.ensures.maps (ap Ok c.if-not-branch.false)) new c.in_ok-made.ensures.digest)
