use Rattle.log_checkpoints.specs.Witnessing.{witness_parts}
use Rattle.log_checkpoints.proofs.Denying.{unopened}
use Rattle.log_checkpoints.proofs.adding.prepared.Goals as goal

pub returns-in-Err-clause-refused : goal.returns-in-Err-clause-refused
returns-in-Err-clause-refused c =
    unopened (witness_parts c.args.who.now) c.args.time c.args.request.now c.in-Ok.read.number c.in-Ok.read.path.items
    c.in-Ok.read.note.now c.in-Ok.ensures.read c.in-Err.why
    (c.in-Err.ensures.refused c.in-Ok.read.number)
