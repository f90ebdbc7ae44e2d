use Rattle.std.proofs.Common.{◌≡◌}
use Rattle.merkle_map.specs.Tree.{way}
use Rattle.merkle_map.proofs.key.is_key_below.Given as goal

abbrev pub invariant-bits : goal.invariant-bits
invariant-bits l = way l.level l.a ≡ way l.level l.b
