use Rattle.std.proofs.Common.{ℕ, ◌+◌, ◌<◌, [], get_or}
use Rattle.merkle_map.specs.Order.{IsKeyBelow}
use Rattle.kept_map.proofs.many.are_rising.Given as goal

abbrev pub invariant-keys : goal.invariant-keys
invariant-keys l = (i : ℕ) → i + 1 < l.n → ¬ IsKeyBelow (get_or l.keys (i + 1) []) (get_or l.keys i [])
