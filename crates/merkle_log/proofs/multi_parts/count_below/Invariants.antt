use Rattle.std.proofs.Common.{◌≡◌, ◌+◌, drop}
use Rattle.merkle_log.specs.Multi.{count_below}
use Rattle.merkle_log.proofs.multi_parts.count_below.Given as goal

abbrev pub invariant-loop-at : goal.invariant-loop-at
invariant-loop-at l = count_below l.bound l.indexes ≡ l.at + count_below l.bound (drop l.at l.indexes)
