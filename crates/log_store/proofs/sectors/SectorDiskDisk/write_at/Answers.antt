use Rattle.std.proofs.Common.{refl}
use Rattle.log_store.proofs.Laid.{apart-any}
use Rattle.log_store.proofs.Writes.{torn-not}
use Rattle.log_store.proofs.sectors.SectorDiskDisk.write_at.Goals as goal

pub returns-in-At-clause-apart : goal.returns-in-At-clause-apart
returns-in-At-clause-apart g c = λ obeys within spot earlier apart fresh. (
  fresh.0,
  fresh.1,
  fresh.2,
  c.write_laid.ensures.apart obeys c.args.at c.args.bytes.now c.in-At.ensures.place within fresh.0 fresh.1
      (apart-any c.args.self.now.layout spot earlier fresh.0 fresh.1 c.args.at c.args.bytes.now c.in-At.place
      c.args.bytes.now fresh.2 c.in-At.ensures.place apart) fresh.3,
)

pub returns-in-Start-clause-apart : goal.returns-in-Start-clause-apart
returns-in-Start-clause-apart g c = λ obeys within spot earlier apart fresh. (
  fresh.0,
  fresh.1,
  fresh.2,
  c.write_laid-in-Start.ensures.apart obeys c.args.at c.args.bytes.now c.in-Start.ensures.start within fresh.0 fresh.1
      (apart-any c.args.self.now.layout spot earlier fresh.0 fresh.1 c.args.at c.args.bytes.now 0
      c.in-Start.own fresh.2 c.in-Start.ensures.start apart) fresh.3,
)

pub returns-in-Nowhere-clause-crash : goal.returns-in-Nowhere-clause-crash
returns-in-Nowhere-clause-crash g c = λ obeys within left now.
    (left, now, torn-not c.args.at c.args.bytes.now left left refl)
