use Rattle.log_store.proofs.Laid.{durable-any}
use Rattle.log_store.proofs.sectors.SectorDiskDisk.sync.Goals as goal

pub returns-in-Ok-clause-durable : goal.returns-in-Ok-clause-durable
returns-in-Ok-clause-durable g c = λ obeys at bytes fresh.
    durable-any c.args.self.now.layout at bytes (g.D.Disk.fresh c.args.self.now.disk)
    (g.D.Disk.may_leave c.sync.new.self)
    fresh (c.in-Ok.ensures.durable obeys)
