use Rattle.std.proofs.Common.{[], subst, sym, ◌∙◌}
use Rattle.merkle_map.specs.Parts.{top_shape}
use Rattle.merkle_map.specs.Tree.{StandsAt}
use Rattle.merkle_map.specs.Whole.{IsRootOf}
use Rattle.merkle_map.proofs.Wholes.{root-of-store}
use Rattle.merkle_map.proofs.Shows.{shows-digest}
use Rattle.merkle_map.proofs.tree.MapTree.root_together.Goals as goal

pub fill_top-digest-requires : goal.fill_top-digest-requires
fill_top-digest-requires g c = c.self.invariant.1 (g.H.MapViews.hashes c.args.hasher.now)

pub invariant_of-self : goal.invariant_of-self
invariant_of-self g c = (
  subst (StandsAt []) (sym (c.forget_top.ensures.same ∙ c.fill_top-digest.ensures.same)) c.self.invariant.0,
  c.forget_top.ensures.none,
)

pub returns-clause-maps : goal.returns-clause-maps
returns-clause-maps g c =
    λ entries shown. shows-digest (g.H.MapViews.hashes c.args.hasher.now) 0 c.args.self.now entries shown

pub returns-clause-store : goal.returns-clause-store
returns-clause-store g c =
    let h = g.H.MapViews.hashes c.args.hasher.now in
    subst (IsRootOf h) c.self.view_is (root-of-store h (top_shape g.D.Numbered.numbers c.self.inside.top)
    c.self.invariant.0)
