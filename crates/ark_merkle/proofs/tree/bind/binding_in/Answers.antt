use Rattle.std.proofs.Common.{◌≡◌, ◌∙◌, ℕ, Err, ap, inr, length, map, arith}
use Rattle.ark_base.specs.declared.error.Error.TheVariants.{IncorrectInputLength}
use Rattle.std.proofs.lemmas.List.{length-map}
use Rattle.ark_base.proofs.Refusals.{passed_on}
use Rattle.ark_paths.specs.PathBytes.{way_of}
use Rattle.ark_paths.specs.Root.{upper_levels}
use Rattle.ark_paths.specs.Tree.{tree_with}
use Rattle.ark_paths.proofs.OwnPaths.{root-top}
use Rattle.ark_merkle.proofs.Bounds.{bound-long, bound-unhashed, bound-refused, bound-ok}
use Rattle.ark_merkle.proofs.TreeReads.{root-read, top-inside}
use Rattle.ark_merkle.proofs.tree.bind.binding_in.Goals.{Else-above-levels}
use Rattle.ark_merkle.proofs.tree.bind.binding_in.Goals as goal

-- the path has a digest for each level above the lowest one
long : (g : _) (c : Else-above-levels g)
    → length (map g.D.Numbered.numbers c.args.above.now) ≡ upper_levels (map g.L.Numbered.numbers c.args.leaves.now)
long g c =
    let count = length-map c.args.above.now g.D.Numbered.numbers in
    omega (arith, c.if-above-levels.false, c.len-levels.ensures.count, c.requires.tree.count)

pub overflow_sub-levels : goal.overflow_sub-levels
overflow_sub-levels g c = omega (arith, c.len-levels.ensures.count, c.requires.tree.count)

pub compare-requires-clause-count : goal.compare-requires-clause-count
compare-requires-clause-count g c =
    omega (arith, c.len-levels.ensures.count, c.requires.tree.count, c.if-above-levels.false)

pub at-requires : goal.at-requires
at-requires g c = record {
  row = omega (arith, c.len-levels.ensures.count, c.requires.tree.count);
  place = top-inside _ _ _ c.requires.tree c.len-levels.result c.len-levels.ensures.count;
}

pub returns-then-above-levels : goal.returns-then-above-levels
returns-then-above-levels g c =
    let count = length-map c.args.above.now g.D.Numbered.numbers in
    inr (bound-long (tree_with (g.T.TreeHasher.hashes c.args.hasher.now) (map g.L.Numbered.numbers c.args.leaves.now))
    c.args.leaf.now (way_of g.L.Numbered.numbers g.D.Numbered.numbers
    (c.args.sibling.now, (c.args.above.now, c.args.index)))
    (λ same. c.if-above-levels.true (omega (arith, count, c.len-levels.ensures.count, c.requires.tree.count, same)))
    ∙ ap (λ (n : ℕ). Err (IncorrectInputLength n)) count)

pub returns-in_err-digest : goal.returns-in_err-digest
returns-in_err-digest g c =
    passed_on _ _ c.from_residual.result c.in_err-digest.field-0.0 c.from_residual.ensures.1 c.in_err-digest.ensures
    (bound-unhashed (tree_with (g.T.TreeHasher.hashes c.args.hasher.now) (map g.L.Numbered.numbers c.args.leaves.now))
    c.args.leaf.now (way_of g.L.Numbered.numbers g.D.Numbered.numbers
    (c.args.sibling.now, (c.args.above.now, c.args.index)))
    (long g (goal.at.returns-in_err-digest g c).Else-above-levels) c.in_err-digest.field-0.0)

pub returns-in_err-top : goal.returns-in_err-top
returns-in_err-top g c =
    passed_on _ _ c.from_residual-in_err-top.result _ c.from_residual-in_err-top.ensures.1 c.in_err-top.ensures.top
    (bound-refused (tree_with (g.T.TreeHasher.hashes c.args.hasher.now) (map g.L.Numbered.numbers c.args.leaves.now))
    c.args.leaf.now (way_of g.L.Numbered.numbers g.D.Numbered.numbers
    (c.args.sibling.now, (c.args.above.now, c.args.index))) (long g (goal.at.returns-in_err-top g c).Else-above-levels)
    _ c.in_ok-digest.ensures _ (root-top _ _ _ c.requires.tree) c.in_err-top.field-0.0)

pub returns : goal.returns
returns g c =
    bound-ok (tree_with (g.T.TreeHasher.hashes c.args.hasher.now) (map g.L.Numbered.numbers c.args.leaves.now))
    c.args.leaf.now (way_of g.L.Numbered.numbers g.D.Numbered.numbers
    (c.args.sibling.now, (c.args.above.now, c.args.index))) (long g (goal.at.returns g c).Else-above-levels) _
    c.in_ok-digest.ensures _ (root-read _ _ _ c.requires.tree c.len-levels.result _ c.len-levels.ensures.count
    c.at.ensures) _ c.in_ok-top.ensures.top c.are_same.result c.are_same.ensures c.in_ok-top.difference
    c.in_ok-top.ensures.differs c.binding_of.result c.binding_of.ensures
