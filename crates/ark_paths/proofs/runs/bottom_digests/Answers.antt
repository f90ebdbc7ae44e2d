use Rattle.std.proofs.lemmas.List.{map_push}
use Rattle.ark_base.proofs.Refusals.{passed_on}
use Rattle.ark_crh.specs.Ahead.{lent_couple, of_couple}
use Rattle.ark_paths.proofs.Ahead.{run-ahead, run-more, run-refused}
use Rattle.ark_paths.proofs.runs.bottom_digests.Goals as goal

pub rest-init : goal.rest-init
rest-init g c =
    rw (c.len-place.ensures, c.in_ok-digests.digests.ok.0) (run-ahead
    (of_couple (g.T.TreeHasher.hashes c.args.hasher.now).pair.bottom)
    (lent_couple g.L.Numbered.numbers) c.args.couples.now g.D.Numbered.numbers _ c.in_ok-digests.ensures)

pub returns-in_err-next : goal.returns-in_err-next
returns-in_err-next g c =
    passed_on _ _ c.from_residual-in_err-next.result _ c.from_residual-in_err-next.ensures.1 c.in_err-next.ensures
    (run-refused (of_couple (g.T.TreeHasher.hashes c.args.hasher.now).pair.bottom) (lent_couple g.L.Numbered.numbers)
    c.args.couples.now
    c.rest.place _ c.rest.invariant _ c.rest-test.true c.index-couples-place.is _)

pub rest-preserved : goal.rest-preserved
rest-preserved g c =
    rw (c.in_ok-push.ensures.items, map_push)
    (run-more (of_couple (g.T.TreeHasher.hashes c.args.hasher.now).pair.bottom) (lent_couple g.L.Numbered.numbers)
    c.args.couples.now
    c.rest.place _ c.rest.invariant _ c.rest-test.true c.index-couples-place.is _ c.in_ok-next.ensures)
