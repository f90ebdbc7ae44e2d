use Rattle.std.proofs.Common.{◌≡◌, map, take}
use Rattle.ark_base.specs.Digits.{itself}
use Rattle.ark_crh.specs.Ahead.{lent, of_bytes}
use Rattle.ark_crh.proofs.array_hash.lend_bytes.Given as goal

abbrev pub invariant-strings : goal.invariant-strings
invariant-strings l = lent l.run.items ≡ map (of_bytes itself) (lent (take l.place l.strings))
