use Rattle.std.proofs.Common.{◌∙◌, ap, map, sym}
use Rattle.std.proofs.lemmas.List.{map-append}
use Rattle.ark_base.proofs.Refusals.{passed_on}
use Rattle.ark_paths.specs.Rows.{row_above}
use Rattle.ark_paths.proofs.Ahead.{paired-run, paired-run_refused}
use Rattle.ark_paths.proofs.CoupleLemmas.{ArePaired-none, ArePaired-all}
use Rattle.ark_merkle.proofs.tree.build.pair_leaves.Goals as goal

pub runs-init : goal.runs-init
runs-init g c =
    rw c.in_ok-row.ensures.items
    (ArePaired-none (g.T.TreeHasher.hashes c.args.hasher.now).pair.bottom g.L.Numbered.numbers c.args.digests.now)

pub returns-in_err-made : goal.returns-in_err-made
returns-in_err-made g c =
    let hash = (g.T.TreeHasher.hashes c.args.hasher.now).pair.bottom in
    passed_on _ _ c.from_residual-in_err-made.result _ c.from_residual-in_err-made.ensures.1 c.in_err-made.ensures
    (λ is. paired-run_refused hash g.L.Numbered.numbers c.args.digests.now c.runs.couple _ _ c.runs.invariant _
    (ap (λ row. row_above hash (map g.L.Numbered.numbers row)) (sym c.part_of.ensures) ∙ is))

pub runs-preserved : goal.runs-preserved
runs-preserved g c =
    let hash = (g.T.TreeHasher.hashes c.args.hasher.now).pair.bottom in
    rw (c.in_ok-append.ensures.items, map-append)
    (paired-run hash g.L.Numbered.numbers c.args.digests.now c.runs.couple _ _ c.runs.invariant _
    (ap (λ row. row_above hash (map g.L.Numbered.numbers row)) (sym c.part_of.ensures) ∙ c.in_ok-made.ensures))

pub returns : goal.returns
returns g c =
    ArePaired-all (g.T.TreeHasher.hashes c.args.hasher.now).pair.bottom g.L.Numbered.numbers c.args.digests.now
    c.runs.couple _ c.runs-test.false c.runs.invariant
