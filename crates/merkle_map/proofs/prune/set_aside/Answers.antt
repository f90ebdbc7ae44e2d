use Rattle.merkle_map.proofs.Keeping.{kept-above}
use Rattle.merkle_map.proofs.prune.set_aside.Goals as goal

pub returns-in_ok-r-in-Fork-clause-digests : goal.returns-in_ok-r-in-Fork-clause-digests
returns-in_ok-r-in-Fork-clause-digests g c =
    kept-above g.D.Numbered.numbers c.fork.result c.in_ok-l-in-Fork.l c.in_ok-r-in-Fork.r c.fork.ensures.kept
    c.in_ok-l-in-Fork.ensures.digests c.in_ok-r-in-Fork.ensures.digests
