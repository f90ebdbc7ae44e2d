use Rattle.std.proofs.Common.{◌≡◌, ℕ, ◌<◌, [], get_or, false}
use Rattle.merkle_map.specs.Map.{bit_of}
use Rattle.kept_map.proofs.many.zeros_of.Given as goal

abbrev pub invariant-keys : goal.invariant-keys
invariant-keys l = (i : ℕ) → i < l.n → bit_of l.level (get_or l.keys i []) ≡ false
