use Rattle.std.proofs.Common.{◌≡◌, take}
use Rattle.ark_crh.specs.Ahead.{lent}
use Rattle.ark_crh.proofs.ahead.lend.Given as goal

abbrev pub invariant-items : goal.invariant-items
invariant-items g l = lent l.run.items ≡ take l.place l.items
