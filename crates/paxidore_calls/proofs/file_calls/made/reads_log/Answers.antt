use Rattle.std.proofs.Common.{◌∙◌, List, ℕ, ap}
use Rattle.log_store.specs.declared.stop.Stop.TheVariants.{Fault}
use Rattle.paxidore_calls.proofs.Made.{damaged-first, sized-of}
use Rattle.paxidore_calls.proofs.file_calls.made.reads_log.Goals as goal

pub returns-in-Ok-clause-sized : goal.returns-in-Ok-clause-sized
returns-in-Ok-clause-sized g c = λ obeys told.
    sized-of (g.D.Disk.seen c.args.disk.now) _ (c.in-Ok.ensures.size obeys)

pub returns-in-Err-Fault-Damaged-clause-log : goal.returns-in-Err-Fault-Damaged-clause-log
returns-in-Err-Fault-Damaged-clause-log g c = λ obeys leaves log.
    absurd (damaged-first (ℕ × List ℕ) (g.D.Disk.seen c.args.disk.now) c.in-Err-Fault-Damaged.field-0
    (c.in-Err-Fault-Damaged.field-0-is ∙ ap Fault c.in-Err-Fault-Damaged.field-0-0-is)
    (c.in-Err-Fault-Damaged.ensures.refused obeys) leaves log)
