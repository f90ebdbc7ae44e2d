use Rattle.std.proofs.Common.{◌≡◌, drop}
use Rattle.merkle_log.specs.Multi.{rise_below}
use Rattle.merkle_log.proofs.multi_parts.rise_below.Given as goal

abbrev pub invariant-loop-index : goal.invariant-loop-index
invariant-loop-index l = rise_below 0 l.end l.indexes ≡ rise_below l.from l.end (drop l.index-index l.indexes)
