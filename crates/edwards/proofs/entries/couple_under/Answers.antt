use Rattle.edwards.proofs.Couples.{couple_first, couple_second}
use Rattle.edwards.proofs.entries.couple_under.Goals as goal

pub returns-clause-first : goal.returns-clause-first
returns-clause-first c =
    couple_first c.args.mask c.args.couple.now c.args.so_far c.and.result c.or.result c.fits-couple c.or.ensures.wide
    c.and.ensures c.or.ensures.lanes c.told-couple

pub returns-clause-second : goal.returns-clause-second
returns-clause-second c =
    couple_second c.args.mask c.args.couple.now c.args.so_far c.and.result c.or.result c.fits-couple c.or.ensures.wide
    c.and.ensures c.or.ensures.lanes c.fits-so_far.0
