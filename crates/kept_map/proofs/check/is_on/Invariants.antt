use Rattle.std.proofs.Common.{◌≡◌}
use Rattle.merkle_map.specs.Tree.{way}
use Rattle.kept_map.specs.Checking.{path_bits}
use Rattle.kept_map.proofs.check.is_on.Given as goal

abbrev pub invariant-bits : goal.invariant-bits
invariant-bits l = way l.n l.key ≡ path_bits l.n l.path
