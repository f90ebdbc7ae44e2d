use Rattle.std.proofs.Common.{◌∙◌, ap, sym}
use Rattle.std.proofs.Common.{Ok}
use Rattle.std.proofs.lemmas.List.{map_push}
use Rattle.ark_paths.proofs.Ahead.{neighbours-more, neighbours-all}
use Rattle.ark_paths.proofs.runs.lend_neighbours.Goals as goal

pub couples-preserved : goal.couples-preserved
couples-preserved g c =
    rw (c.in_ok-push.ensures.items, map_push, c.couples.invariant)
    (sym (neighbours-more g.D.Numbered.numbers c.args.row.now c.couples.couple _ _ c.couples-test.true
    c.index-row-couple.is c.index-row-couple-in-couples.is))

pub returns : goal.returns
returns g c =
    ap Ok (sym (c.couples.invariant
    ∙ neighbours-all g.D.Numbered.numbers c.args.row.now c.couples.couple c.couples-test.false))
