use Rattle.std.proofs.Common.{refl, map}
use Rattle.merkle_map.specs.Map.{Nothing}
use Rattle.merkle_map.proofs.Climb.{verdict-binds, answered}
use Rattle.merkle_map.proofs.verify.verify_absent.Goals as goal

pub returns-clause-bound : goal.returns-clause-bound
returns-clause-bound g c =
    let h = g.H.MapViews.hashes c.args.hasher.now in
    let root = g.D.Numbered.numbers c.args.root.now in
    let siblings = map g.D.Numbered.numbers c.args.siblings.now in
    answered _ _ (λ yes. verdict-binds h c.args.key.now root siblings Nothing refl yes) c.nothing_leads_to.ensures
