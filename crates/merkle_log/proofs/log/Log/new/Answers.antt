use Rattle.merkle_log.proofs.Carried.{stored-none}
use Rattle.merkle_log.proofs.Positions.{no-rows, no-count}
use Rattle.merkle_log.proofs.log.Log.new.Goals as goal

pub invariant_of-result : goal.invariant_of-result
invariant_of-result g c = rw (c.new.ensures) (record { whole = no-count; stored = stored-none _ _ no-rows })
