use Rattle.std.proofs.Common.{Ok, map, ap, sym, ◌∙◌, subst}
use Rattle.std.specs.Str.{bytes_eq}
use Rattle.ark_base.specs.Outcome.{◌>>=◌}
use Rattle.merkle_map.specs.Parts.{top_shape}
use Rattle.merkle_map.specs.Transition.{change_seen, LeadsTo}
use Rattle.merkle_map.proofs.Changed.{leads}
use Rattle.merkle_map.proofs.transition.verify_transition.Goals as goal

pub change_by_root-requires-clause-kept : goal.change_by_root-requires-clause-kept
change_by_root-requires-clause-kept g c = c.into_top-top.ensures.none (g.H.MapViews.hashes c.args.hasher.now)

pub returns-clause-bound : goal.returns-clause-bound
returns-clause-bound g c = λ yes.
    let numbers = g.D.Numbered.numbers in
    let h = g.H.MapViews.hashes c.args.hasher.now in
    let old = numbers c.args.old_root.now in
    let new = numbers c.args.new_root.now in
    let changes = map change_seen c.args.changes.now in
    subst (λ s. LeadsTo h old new s changes) c.into_top-top.ensures.shape
    (leads h old new changes (top_shape numbers c.into_top-top.result) (top_shape numbers c.change_by_root.new.tree)
    (Ok c.are_same_digests.result) (c.in_ok-change_by_root.ensures.bound (ap Ok c.if-not-branch.false))
    (c.in_ok-change_by_root.ensures.maps (ap Ok c.if-not-branch.false))
    (ap (λ o. o >>= λ digest. Ok (bytes_eq digest new)) c.in_ok-digest.ensures.digest
    ∙ ap Ok (sym c.are_same_digests.ensures)) yes)
