use Rattle.merkle_map.proofs.Keeping.{kept-above}
use Rattle.merkle_map.proofs.prune.+cover.Goals as goal

pub returns-then-are_same_digests-clause-digests : goal.returns-then-are_same_digests-clause-digests
returns-then-are_same_digests-clause-digests g t c =
    kept-above g.D.Numbered.numbers c.fork.result c.in_ok-l-in-Fork.l c.in_ok-r-in-Fork.r c.fork.ensures.kept
    c.in_ok-l-in-Fork.ensures.digests
    c.in_ok-r-in-Fork.ensures.digests
