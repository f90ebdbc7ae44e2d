use Rattle.std.proofs.Common.{◌≡◌, map, take}
use Rattle.ark_base.specs.Digits.{itself}
use Rattle.ark_crh.specs.Ahead.{of_bytes}
use Rattle.ark_crh.proofs.sha256.strings.Given as goal

abbrev pub invariant-digests : goal.invariant-digests
invariant-digests l = map (of_bytes itself) l.made.items ≡ take l.place l.digests
