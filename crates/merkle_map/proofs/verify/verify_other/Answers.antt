use Rattle.std.proofs.Common.{subst, refl, map, sym, ◌∙◌}
use Rattle.merkle_map.specs.Binding.{BindsValue}
use Rattle.merkle_map.specs.Map.{leaf_of}
use Rattle.merkle_map.proofs.Climb.{verdict-binds, other_value, answered}
use Rattle.merkle_map.proofs.verify.verify_other.Goals as goal

pub returns-else-are_same_keys-clause-bound : goal.returns-else-are_same_keys-clause-bound
returns-else-are_same_keys-clause-bound g c =
    let h = g.H.MapViews.hashes c.args.hasher.now in
    let key = c.args.key.now in
    let other = c.args.other_key.now in
    let root = g.D.Numbered.numbers c.args.root.now in
    let value = c.args.other_value.now in
    let siblings = map g.D.Numbered.numbers c.args.siblings.now in
    answered _ _ (λ yes. subst (λ v. BindsValue h root key v siblings (leaf_of other value))
    (other_value key other value (sym c.are_same_keys.ensures ∙ c.if-are_same_keys.false))
    (verdict-binds h key root siblings (leaf_of other value) refl yes)) c.leaf_leads_to.ensures
