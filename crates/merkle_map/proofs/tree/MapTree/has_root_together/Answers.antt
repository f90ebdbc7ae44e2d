use Rattle.std.proofs.Common.{Ok, ap, sym, ◌∙◌}
use Rattle.std.proofs.lemmas.Slice.Eq.{bytes_eq-Decides}
use Rattle.merkle_map.proofs.Shows.{shows-or_collides}
use Rattle.merkle_map.proofs.tree.MapTree.has_root_together.Goals as goal

pub returns-clause-bound : goal.returns-clause-bound
returns-clause-bound g c = λ yes entries tree.
    let numbers = g.D.Numbered.numbers in
    let same = (bytes_eq-Decides (numbers c.in_ok-own.own) (numbers c.args.root.now)).0
    (sym c.are_same_digests.ensures ∙ yes) in
    shows-or_collides (g.H.MapViews.hashes c.args.hasher.now) 0 c.args.self.now entries (numbers c.args.root.now)
    (c.in_ok-own.ensures.digest ∙ ap Ok same) tree
