use Rattle.std.proofs.Common.{OnOk, subst}
use Rattle.merkle_map.specs.Changes.{entry_of, with_value}
use Rattle.merkle_map.specs.Whole.{Stores}
use Rattle.merkle_map.proofs.Wholes.{plain, stores, put-can, under}
use Rattle.merkle_map.specs.Map.{put}
use Rattle.merkle_map.specs.Parts.{top_shape}
use Rattle.merkle_map.specs.Shown.{Follows}
use Rattle.merkle_map.proofs.tree.MapTree.insert.Goals as goal

pub invariant_of-self : goal.invariant_of-self
invariant_of-self g c =
    (c.put_top.ensures.stands, λ h. c.put_top.ensures.digests h (c.self.invariant.1 h))

pub returns-clause-maps : goal.returns-clause-maps
returns-clause-maps g c =
    let new = top_shape g.D.Numbered.numbers c.put_top.new.top in
    subst (λ old. OnOk c.put_top.result (Follows (put c.args.key.now c.args.value) old new)) c.self.view_is
    c.put_top.ensures.maps

pub returns-clause-store : goal.returns-clause-store
returns-clause-store g c =
    let numbers = g.D.Numbered.numbers in
    let own = entry_of c.args.key.now c.args.value in
    let change = put c.args.key.now c.args.value in
    let old = top_shape numbers c.self.inside.top in
    let new = top_shape numbers c.put_top.new.top in
    subst (λ s. Stores change s new c.put_top.result) c.self.view_is
    (stores plain change old new c.self.invariant.0 c.put_top.ensures.stands (with_value 0 own old)
    c.put_top.result (put-can own old) c.put_top.ensures.changed
    (under plain change old new c.put_top.result c.put_top.ensures.maps))
