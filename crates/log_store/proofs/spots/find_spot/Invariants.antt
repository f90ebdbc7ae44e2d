use Rattle.std.proofs.Common.{◌≡◌, ◌-◌, length, drop}
use Rattle.log_store.specs.Spots.{found}
use Rattle.log_store.proofs.spots.find_spot.Given as goal

abbrev pub invariant-spots : goal.invariant-spots
invariant-spots l = record { rest : found (drop l.at l.spots) l.position ≡ found l.spots l.position }

abbrev pub decreases-spots : goal.decreases-spots
decreases-spots l = length l.spots - l.at
