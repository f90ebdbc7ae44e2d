use Rattle.std.proofs.Common.{Ok, ap, sym, ◌∙◌}
use Rattle.std.proofs.lemmas.Slice.Eq.{bytes_eq-Decides}
use Rattle.merkle_map.specs.Parts.{top_shape}
use Rattle.merkle_map.proofs.Shows.{shows-or_collides}
use Rattle.merkle_map.proofs.transition.change_by_root.Goals as goal

pub returns-clause-bound : goal.returns-clause-bound
returns-clause-bound g c = λ is entries tree.
    let numbers = g.D.Numbered.numbers in
    let same = (bytes_eq-Decides (numbers c.in_ok-digest.digest) (numbers c.args.root.now)).0
    (sym c.are_same_digests.ensures ∙ c.if-not-are_same_digests.false) in
    shows-or_collides (g.H.MapViews.hashes c.args.hasher.now) 0 (top_shape numbers c.args.tree.now) entries
    (numbers c.args.root.now) (c.in_ok-digest.ensures.digest ∙ ap Ok same) tree

pub returns-clause-kept : goal.returns-clause-kept
returns-clause-kept g c =
    c.in_ok-change_all.ensures.digests (g.H.MapViews.hashes c.args.hasher.now) c.in_ok-digest.ensures.kept
