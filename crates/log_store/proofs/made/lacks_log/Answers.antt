use Rattle.std.proofs.Common.{◌∙◌, ap}
use Rattle.log_store.specs.declared.log.Log.{Log}
use Rattle.log_store.specs.declared.stop.Stop.TheVariants.{Fault}
use Rattle.log_store.proofs.Refusals.{damaged-none}
use Rattle.log_store.proofs.made.lacks_log.Goals as goal

pub returns-in-Err-Fault-Damaged-clause-log : goal.returns-in-Err-Fault-Damaged-clause-log
returns-in-Err-Fault-Damaged-clause-log g c = λ obeys leaves log.
    let seen = g.D.Disk.seen c.args.disk.now in
    absurd (damaged-none Log seen c.in-Err-Fault-Damaged.field-0
    (c.in-Err-Fault-Damaged.field-0-is ∙ ap Fault c.in-Err-Fault-Damaged.field-0-0-is)
    (c.in-Err-Fault-Damaged.ensures.refused obeys) leaves log)
