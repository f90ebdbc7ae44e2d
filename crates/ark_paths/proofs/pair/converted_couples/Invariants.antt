use Rattle.ark_crh.specs.Ahead.{lent_couples}
use Rattle.ark_paths.specs.Pair.{converted_couple}
use Rattle.ark_crh.specs.Ahead.{couples_seen}
use Rattle.ark_paths.proofs.Ahead.{HaveValues}
use Rattle.ark_paths.proofs.pair.converted_couples.Given as goal

abbrev pub invariant-couples : goal.invariant-couples
invariant-couples g l =
    HaveValues (converted_couple g.C.DigestConverter.conversion) (lent_couples g.L.Numbered.numbers l.couples) l.place
    (couples_seen g.I.Numbered.numbers l.made.items)
