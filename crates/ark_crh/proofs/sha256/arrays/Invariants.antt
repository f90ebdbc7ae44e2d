use Rattle.std.proofs.Common.{◌≡◌, take}
use Rattle.ark_base.specs.Digits.{itself}
use Rattle.ark_crh.specs.Ahead.{lent_couples, of_bytes}
use Rattle.ark_crh.proofs.sha256.arrays.Given as goal

abbrev pub invariant-couples : goal.invariant-couples
invariant-couples l = l.made.items ≡ take l.place (lent_couples (of_bytes itself) l.couples)
