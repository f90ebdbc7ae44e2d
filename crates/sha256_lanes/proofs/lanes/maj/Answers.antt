use Rattle.sha256_lanes.proofs.ChMaj.{maj_short}
use Rattle.sha256_lanes.proofs.lanes.maj.Goals as goal

pub returns : goal.returns
returns c = maj_short c.args.x c.args.y c.args.z
