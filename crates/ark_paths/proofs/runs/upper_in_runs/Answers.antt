use Rattle.std.proofs.Common.{arith}
use Rattle.std.proofs.lemmas.List.{length-map, map-append}
use Rattle.ark_base.proofs.Refusals.{passed_on}
use Rattle.ark_crh.specs.Ahead.{lent_couple, lent_couples, of_couple}
use Rattle.ark_paths.proofs.ListOutcomes.{IsSoFar-none, IsSoFar-all}
use Rattle.ark_paths.proofs.RunLemmas.{seen-run, seen-run_refused}
use Rattle.ark_paths.proofs.runs.upper_in_runs.Goals as goal

pub runs-init : goal.runs-init
runs-init g c =
    rw c.in_ok-digests.ensures.items (IsSoFar-none (of_couple (g.T.TreeHasher.hashes c.args.hasher.now).pair.upper)
    (lent_couples g.D.Numbered.numbers c.args.couples.now))

pub returns-in_err-made : goal.returns-in_err-made
returns-in_err-made g c =
    let hash = of_couple (g.T.TreeHasher.hashes c.args.hasher.now).pair.upper in
    passed_on _ _ c.from_residual-in_err-made.result _ c.from_residual-in_err-made.ensures.1 c.in_err-made.ensures
    (seen-run_refused hash (lent_couple g.D.Numbered.numbers) c.args.couples.now c.runs.first _ _ c.part_of.ensures _
    c.runs.invariant _)

pub runs-preserved : goal.runs-preserved
runs-preserved g c =
    let hash = of_couple (g.T.TreeHasher.hashes c.args.hasher.now).pair.upper in
    rw (c.in_ok-append.ensures.items, map-append)
    (seen-run hash (lent_couple g.D.Numbered.numbers) c.args.couples.now c.runs.first _ _ c.part_of.ensures _
    c.runs.invariant _ c.in_ok-made.ensures)

pub returns : goal.returns
returns g c =
    IsSoFar-all (of_couple (g.T.TreeHasher.hashes c.args.hasher.now).pair.upper)
    (lent_couples g.D.Numbered.numbers c.args.couples.now) c.runs.first _
    (omega (arith, c.runs-test.false, length-map c.args.couples.now (lent_couple g.D.Numbered.numbers)))
    c.runs.invariant
