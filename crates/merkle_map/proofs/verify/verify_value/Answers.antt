use Rattle.std.proofs.Common.{subst, refl, map}
use Rattle.merkle_map.specs.Binding.{BindsValue}
use Rattle.merkle_map.specs.Map.{leaf_of}
use Rattle.merkle_map.proofs.Climb.{verdict-binds, own_value, answered}
use Rattle.merkle_map.proofs.verify.verify_value.Goals as goal

pub returns-clause-bound : goal.returns-clause-bound
returns-clause-bound g c =
    let h = g.H.MapViews.hashes c.args.hasher.now in
    let key = c.args.key.now in
    let root = g.D.Numbered.numbers c.args.root.now in
    let value = c.args.value.now in
    let siblings = map g.D.Numbered.numbers c.args.siblings.now in
    answered _ _ (λ yes. subst (λ v. BindsValue h root key v siblings (leaf_of key value)) (own_value key value)
    (verdict-binds h key root siblings (leaf_of key value) refl yes)) c.leaf_leads_to.ensures
