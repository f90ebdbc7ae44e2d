use Rattle.std.proofs.Common.{◌≡◌, length}
use Rattle.merkle_log.proofs.digests.blank_digests.Given as goal

abbrev pub invariant-loop : goal.invariant-loop
invariant-loop g l = length l.digests.items ≡ l.counter
