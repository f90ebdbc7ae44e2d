use Rattle.std.proofs.Common.{false, [], refl, ap, sym, ◌∙◌, subst}
use Rattle.merkle_map.specs.Changes.{known_at}
use Rattle.merkle_map.specs.Parts.{top_shape}
use Rattle.merkle_map.specs.Tree.{shape_digest, Shows, StandsAt}
use Rattle.merkle_map.proofs.Pruning.{stands-fits, prunes, prunes-known}
use Rattle.merkle_map.proofs.tree.MapTree.pruned_for.Goals as goal

pub prune_top-requires : goal.prune_top-requires
prune_top-requires g c = record {
  fits = stands-fits [] 0 (top_shape g.D.Numbered.numbers c.self.inside.top) refl c.self.invariant.0;
  kept = c.self.invariant.1 (g.H.MapViews.hashes c.args.hasher.now);
}

pub invariant_of-result : goal.invariant_of-result
invariant_of-result g c =
    let numbers = g.D.Numbered.numbers in
    let h = g.H.MapViews.hashes c.args.hasher.now in (
      (prunes h c.args.tops 0 false [] c.args.keys.now (top_shape numbers c.self.inside.top)
          (top_shape numbers c.in_ok-top.top)
          c.in_ok-top.ensures.pruned).stands c.self.invariant.0,
      c.in_ok-top.ensures.digests,
    )

pub returns-clause-digest : goal.returns-clause-digest
returns-clause-digest g c =
    let numbers = g.D.Numbered.numbers in
    let h = g.H.MapViews.hashes c.args.hasher.now in
    (prunes h c.args.tops 0 false [] c.args.keys.now (top_shape numbers c.self.inside.top)
    (top_shape numbers c.in_ok-top.top)
    c.in_ok-top.ensures.pruned).digest ∙ ap (shape_digest h) c.self.view_is

pub returns-clause-known : goal.returns-clause-known
returns-clause-known g c = λ key among.
    let numbers = g.D.Numbered.numbers in
    let h = g.H.MapViews.hashes c.args.hasher.now in
    prunes-known h c.args.tops 0 false c.args.keys.now key (top_shape numbers c.self.inside.top)
    (top_shape numbers c.in_ok-top.top) among
    c.in_ok-top.ensures.pruned ∙ ap (known_at 0 key) c.self.view_is

pub returns-clause-maps : goal.returns-clause-maps
returns-clause-maps g c = λ entries shown.
    let numbers = g.D.Numbered.numbers in
    let h = g.H.MapViews.hashes c.args.hasher.now in
    (prunes h c.args.tops 0 false [] c.args.keys.now (top_shape numbers c.self.inside.top)
    (top_shape numbers c.in_ok-top.top)
    c.in_ok-top.ensures.pruned).shows entries (subst (λ s. Shows h 0 s entries) (sym c.self.view_is) shown)

pub returns-clause-stands : goal.returns-clause-stands
returns-clause-stands g c = subst (StandsAt []) c.self.view_is c.self.invariant.0
