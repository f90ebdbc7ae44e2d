use Rattle.std.proofs.Common.{◌∙◌, ap, sym}
use Rattle.std.proofs.lemmas.List.{map-append}
use Rattle.ark_base.proofs.Refusals.{passed_on}
use Rattle.ark_paths.specs.Root.{all_hashes}
use Rattle.ark_paths.proofs.Ahead.{so_far-run, so_far-run_refused}
use Rattle.ark_paths.proofs.ListOutcomes.{IsSoFar-none, IsSoFar-all}
use Rattle.ark_paths.proofs.runs.leaves_in_runs.Goals as goal

pub runs-init : goal.runs-init
runs-init g c =
    rw c.in_ok-digests.ensures.items (IsSoFar-none (g.T.TreeHasher.hashes c.args.hasher.now).leaf c.args.leaves.now)

pub returns-in_err-made : goal.returns-in_err-made
returns-in_err-made g c =
    let hash = (g.T.TreeHasher.hashes c.args.hasher.now).leaf in
    passed_on _ _ c.from_residual-in_err-made.result _ c.from_residual-in_err-made.ensures.1 c.in_err-made.ensures
    (λ is. so_far-run_refused hash c.args.leaves.now c.runs.first _ _ c.runs.invariant _
    (ap (all_hashes hash) (sym c.part_of.ensures) ∙ is))

pub runs-preserved : goal.runs-preserved
runs-preserved g c =
    let hash = (g.T.TreeHasher.hashes c.args.hasher.now).leaf in
    rw (c.in_ok-append.ensures.items, map-append)
    (so_far-run hash c.args.leaves.now c.runs.first _ _ c.runs.invariant _
    (ap (all_hashes hash) (sym c.part_of.ensures) ∙ c.in_ok-made.ensures))

pub returns : goal.returns
returns g c =
    IsSoFar-all (g.T.TreeHasher.hashes c.args.hasher.now).leaf c.args.leaves.now c.runs.first _ c.runs-test.false
    c.runs.invariant
