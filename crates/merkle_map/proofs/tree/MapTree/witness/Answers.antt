use Rattle.merkle_map.proofs.Witness.{can_change_after, can_lose_after}
use Rattle.merkle_map.proofs.tree.MapTree.witness.Goals as goal

pub returns-clause-removes : goal.returns-clause-removes
returns-clause-removes g c =
    can_lose_after (g.H.MapViews.hashes c.args.hasher.now) c.args.keys.now c.args.self.now c.pruned_for.ensures.stands
    c.pruned_for.result c.pruned_for.ensures.answer

pub returns-clause-changes : goal.returns-clause-changes
returns-clause-changes g c =
    can_change_after (g.H.MapViews.hashes c.args.hasher.now) c.args.keys.now c.args.self.now
    c.pruned_for.ensures.stands c.pruned_for.result c.pruned_for.ensures.answer
