use Rattle.std.proofs.Common.{[], true, refl, subst}
use Rattle.merkle_map.specs.Order.{next_seen, IsNextKnown}
use Rattle.merkle_map.specs.Parts.{top_shape}
use Rattle.merkle_map.proofs.NextShown.{next-has}
use Rattle.merkle_map.proofs.Pruning.{stands-fits}
use Rattle.merkle_map.proofs.tree.MapTree.next.Goals as goal

pub next_top-requires : goal.next_top-requires
next_top-requires g c = stands-fits [] 0 (top_shape g.D.Numbered.numbers c.self.inside.top) refl c.self.invariant.0

pub returns-clause-maps : goal.returns-clause-maps
returns-clause-maps g c =
    next-has c.args.self.now c.args.first.now c.args.last.now c.next_top.result
    (subst (λ s. IsNextKnown true true 0 c.args.first.now c.args.last.now s (next_seen c.next_top.result))
    c.self.view_is c.next_top.ensures)
