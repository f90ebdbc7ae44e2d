use Rattle.std.proofs.Common.{◌∙◌, ap, map, sym, arith}
use Rattle.std.proofs.lemmas.List.{length-map}
use Rattle.ark_base.proofs.Refusals.{passed_on}
use Rattle.ark_paths.specs.Rows.{digests_of, row_above}
use Rattle.ark_merkle.proofs.BuildRows.{rows-all}
use Rattle.ark_merkle.proofs.PileRuns.{run_of, pile-none, pile-refused, pile-more}
use Rattle.ark_merkle.proofs.tree.build.pair_rows.Goals as goal

pub runs-init : goal.runs-init
runs-init g c = pile-none (g.T.TreeHasher.hashes c.args.hasher.now).pair.upper g.D.Numbered.numbers c.args.digests

pub returns-in_err-made-clause-rows : goal.returns-in_err-made-clause-rows
returns-in_err-made-clause-rows g c k size =
    let hash = (g.T.TreeHasher.hashes c.args.hasher.now).pair.upper in
    passed_on _ _ c.from_residual.result _ c.from_residual.ensures.1 c.in_err-made.ensures
    (λ is. pile-refused hash g.D.Numbered.numbers c.args.digests c.runs.digests c.runs.couple _ c.runs.invariant
    (omega arith) (omega arith) k size _
    (ap (λ row. row_above hash (map g.D.Numbered.numbers row)) (sym (c.part_of.ensures
    ∙ ap (run_of c.runs.couple _) c.deref.ensures.value)) ∙ is))

pub runs-preserved : goal.runs-preserved
runs-preserved g c =
    let hash = (g.T.TreeHasher.hashes c.args.hasher.now).pair.upper in
    pile-more hash g.D.Numbered.numbers c.args.digests c.runs.digests c.runs.couple _ c.runs.invariant
    (omega arith) (omega arith) c.in_ok-made.made _
    (ap (λ row. row_above hash (map g.D.Numbered.numbers row)) (sym (c.part_of.ensures
    ∙ ap (run_of c.runs.couple _) c.deref.ensures.value)) ∙ c.in_ok-made.ensures)
    c.in_ok-append.ensures.items

pub returns-clause-rows : goal.returns-clause-rows
returns-clause-rows g c = λ k size.
    rows-all (g.T.TreeHasher.hashes c.args.hasher.now).pair.upper (digests_of g.D.Numbered.numbers c.args.digests) k
    size c.runs.couple (digests_of g.D.Numbered.numbers c.runs.digests)
    (omega (
      arith,
      c.runs.invariant.below,
      c.runs.invariant.long,
      length-map c.args.digests.items g.D.Numbered.numbers,
    )) c.runs.invariant.so_far
