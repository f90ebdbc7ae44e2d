use Rattle.std.proofs.Common.{◌≡◌, map, take}
use Rattle.ark_crh.specs.Ahead.{lent_couples}
use Rattle.ark_paths.specs.Rows.{couples}
use Rattle.ark_paths.proofs.runs.lend_neighbours.Given as goal

abbrev pub invariant-couples : goal.invariant-couples
invariant-couples g l =
    lent_couples g.D.Numbered.numbers l.run.items ≡ take l.couple (couples (map g.D.Numbered.numbers l.row))
