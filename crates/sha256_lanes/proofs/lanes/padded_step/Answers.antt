use Rattle.sha2.proofs.Schedule256.{rounds_next}
use Rattle.sha256_lanes.specs.Lanes.{pad_schedule}
use Rattle.sha256_lanes.proofs.LaneLemmas.{padded_sum}
use Rattle.sha256_lanes.proofs.lanes.padded_step.Goals as goal

pub returns : goal.returns
returns c = λ h held.
    rw (rounds_next h pad_schedule c.args.t, ← held) (c.round.ensures _ _ (padded_sum c.args.t c.requires))
