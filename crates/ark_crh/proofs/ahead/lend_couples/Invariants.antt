use Rattle.std.proofs.Common.{◌≡◌, take}
use Rattle.ark_crh.specs.Ahead.{lent_couples}
use Rattle.ark_crh.specs.Ahead.{couples_seen}
use Rattle.ark_crh.proofs.ahead.lend_couples.Given as goal

abbrev pub invariant-couples : goal.invariant-couples
invariant-couples g l =
    lent_couples g.I.Numbered.numbers l.run.items ≡ couples_seen g.I.Numbered.numbers (take l.place l.all)
