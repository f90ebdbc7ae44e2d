use Rattle.std.proofs.Common.{arith}
use Rattle.std.proofs.lemmas.List.{map_push}
use Rattle.ark_crh.specs.Ahead.{lent_couple}
use Rattle.ark_paths.specs.Pair.{converted_couple}
use Rattle.ark_paths.proofs.Ahead.{values-next, values-of_first}
use Rattle.ark_paths.proofs.pair.converted_couples.Goals as goal

pub couples-preserved : goal.couples-preserved
couples-preserved g c =
    rw (c.in_ok-push-in-Ok.ensures.items, map_push)
    (values-next (converted_couple g.C.DigestConverter.conversion) (lent_couple g.L.Numbered.numbers)
    c.args.couples.now c.couples.place _ c.couples.invariant _ _ c.couples-test.true c.index-couples-place.is
    c.in-Ok.ensures)

pub returns-clause-couples : goal.returns-clause-couples
returns-clause-couples g c =
    values-of_first (converted_couple g.C.DigestConverter.conversion) (lent_couple g.L.Numbered.numbers)
    c.args.couples.now c.couples.place _ c.couples.invariant (omega arith)
