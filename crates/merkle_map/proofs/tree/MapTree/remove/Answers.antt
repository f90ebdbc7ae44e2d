use Rattle.std.proofs.Common.{OnOk, subst}
use Rattle.merkle_map.specs.Map.{without}
use Rattle.merkle_map.specs.Changes.{tree_without}
use Rattle.merkle_map.specs.Parts.{top_shape}
use Rattle.merkle_map.specs.Shown.{FollowsBy}
use Rattle.merkle_map.specs.Whole.{Stores}
use Rattle.merkle_map.proofs.Wholes.{stores, remove-can}
use Rattle.merkle_map.proofs.tree.MapTree.remove.Goals as goal

pub invariant_of-self : goal.invariant_of-self
invariant_of-self g c =
    (c.remove_top.ensures.stands, λ h. c.remove_top.ensures.digests h (c.self.invariant.1 h))

pub returns-clause-maps : goal.returns-clause-maps
returns-clause-maps g c =
    let h = g.H.MapViews.hashes c.args.hasher.now in
    let new = top_shape g.D.Numbered.numbers c.remove_top.new.top in
    subst (λ s. OnOk c.remove_top.result (FollowsBy h (without c.args.key.now) s new)) c.self.view_is
    c.remove_top.ensures.maps

pub returns-clause-store : goal.returns-clause-store
returns-clause-store g c =
    let numbers = g.D.Numbered.numbers in
    let h = g.H.MapViews.hashes c.args.hasher.now in
    let key = c.args.key.now in
    let old = top_shape numbers c.self.inside.top in
    let new = top_shape numbers c.remove_top.new.top in
    subst (λ s. Stores (without key) s new c.remove_top.result) c.self.view_is
    (stores h (without key) old new c.self.invariant.0 c.remove_top.ensures.stands (tree_without h.nothing key old)
    c.remove_top.result (remove-can h.nothing key old) c.remove_top.ensures.changed c.remove_top.ensures.maps)
