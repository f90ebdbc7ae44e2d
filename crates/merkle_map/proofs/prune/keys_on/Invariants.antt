use Rattle.std.proofs.Common.{◌≡◌, take}
use Rattle.merkle_map.specs.Pruned.{keys_with}
use Rattle.merkle_map.proofs.prune.keys_on.Given as goal

abbrev pub invariant-keys : goal.invariant-keys
invariant-keys l = l.kept.items ≡ keys_with l.bit l.level (take l.key-index l.keys)
