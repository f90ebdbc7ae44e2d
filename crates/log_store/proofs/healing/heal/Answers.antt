use Rattle.std.proofs.Common.{◌⊎◌, ◌≤◌, inl, inr, List, ℕ, length, subst}
use Rattle.ark_paths.specs.Pair.{Digest}
use Rattle.log_file.specs.LogFile.{IsLogFile}
use Rattle.log_store.specs.Disk.{LeavesOnly}
use Rattle.log_store.specs.Healing.{IsNotOlder, IsReadAs, KeepsIn}
use Rattle.log_store.specs.Sectors.{laid, IsSpread}
use Rattle.log_store.proofs.Healed.{alike-settled, alike-title, kept-alike}
use Rattle.log_store.proofs.Runs.{begun, weaker}
use Rattle.log_store.proofs.healing.heal.Goals.{After-write_sectors, Start}
use Rattle.log_store.proofs.healing.heal.Goals as goal

-- Nothing was written.
still : (g : _) (c : Start g) (leaves : List Digest)
    → LeavesOnly g.D.Disk.moment g.D.Disk.left_since c.args.own.now.disk c.args.own.now.disk
    (λ left. g.D.Disk.may_leave c.args.own.now.disk left ⊎ IsReadAs leaves left)
still g c leaves = begun g.D.Disk c.args.own.now.disk
    (λ left. g.D.Disk.may_leave c.args.own.now.disk left ⊎ IsReadAs leaves left)
    (λ left since. inl (g.met.D.Disk.only_now c.args.own.now.disk left since))

pub returns-in-Err-clause-any_moment : goal.returns-in-Err-clause-any_moment
returns-in-Err-clause-any_moment g c = λ obeys leaves spread other log durable.
    still g (goal.at.returns-in-Err-clause-any_moment g c).Start leaves

pub returns-in_err-used-clause-any_moment : goal.returns-in_err-used-clause-any_moment
returns-in_err-used-clause-any_moment g c = λ obeys leaves spread other log durable.
    still g (goal.at.returns-in_err-used-clause-any_moment g c).Start leaves

-- ---- no sector is lost

pub returns-then-is_whole-clause-healed : goal.returns-then-is_whole-clause-healed
returns-then-is_whole-clause-healed g c = λ obeys leaves spread other log.
    let own = c.args.own.now in
    let file = g.D.Disk.seen own.disk in
    let long : 8192 ≤ length file = c.in_default.ensures obeys in
    alike-settled file leaves long (c.is_whole.ensures.alike obeys long c.if-is_whole.true)
    (subst (λ l. IsLogFile leaves (laid l file)) (c.is_whole.ensures.lies c.if-is_whole.true) log)

pub returns-then-is_whole-clause-title : goal.returns-then-is_whole-clause-title
returns-then-is_whole-clause-title g c = λ obeys spread.
    let file = g.D.Disk.seen c.args.own.now.disk in
    let long : 8192 ≤ length file = c.in_default.ensures obeys in
    alike-title file (c.is_whole.ensures.alike obeys long c.if-is_whole.true)

pub returns-then-is_whole-clause-any_moment : goal.returns-then-is_whole-clause-any_moment
returns-then-is_whole-clause-any_moment g c = λ obeys leaves spread other log durable.
    still g (goal.at.returns-then-is_whole-clause-any_moment g c).Start leaves

-- ---- one is written again

module _ (g : _) (c : After-write_sectors g) (obeys : g.D.Disk.Obeys c.write_sectors.new.disk) where
  long : 8192 ≤ length (g.D.Disk.seen c.args.own.now.disk)
  long = c.in_default.ensures (c.write_sectors.ensures.obeys obeys)

  module _ (leaves : List Digest) (spread : IsSpread c.args.own.now.layout)
      (other : IsNotOlder (g.D.Disk.seen c.args.own.now.disk))
      (log : IsLogFile leaves (laid c.args.own.now.layout (g.D.Disk.seen c.args.own.now.disk))) where
    own-kept : KeepsIn c.in_ok-used.used.slot c.in_ok-used.used.is_in_first leaves
        (g.D.Disk.seen c.args.own.now.disk)
    own-kept = c.in_ok-used.ensures.kept (c.write_sectors.ensures.obeys obeys) leaves spread long other log

    own-run : ((left : List ℕ) → g.D.Disk.may_leave c.args.own.now.disk left
        → KeepsIn c.in_ok-used.used.slot c.in_ok-used.used.is_in_first leaves left)
        → LeavesOnly g.D.Disk.moment g.D.Disk.left_since c.args.own.now.disk c.write_sectors.new.disk
        (λ left. g.D.Disk.may_leave c.args.own.now.disk left ⊎ IsReadAs leaves left)
    own-run each = weaker g.D.Disk c.args.own.now.disk c.write_sectors.new.disk
        (λ left. g.D.Disk.may_leave c.args.own.now.disk left ⊎ IsReadAs leaves left) (IsReadAs leaves)
        (c.write_sectors.ensures.any_moment obeys leaves own-kept each) (λ left reads. inr reads)

pub returns-in-Ok-clause-healed : goal.returns-in-Ok-clause-healed
returns-in-Ok-clause-healed g c = λ obeys leaves spread other log.
    let at = (goal.at.returns-in-Ok-clause-healed g c).After-write_sectors in
    c.in-Ok.ensures.settled obeys leaves (own-kept g at obeys leaves spread other log)

pub returns-in-Ok-clause-title : goal.returns-in-Ok-clause-title
returns-in-Ok-clause-title g c = λ obeys spread.
    c.in-Ok.ensures.title obeys (long g (goal.at.returns-in-Ok-clause-title g c).After-write_sectors obeys)

pub returns-in-Ok-clause-any_moment : goal.returns-in-Ok-clause-any_moment
returns-in-Ok-clause-any_moment g c = λ obeys leaves spread other log durable.
    let at = (goal.at.returns-in-Ok-clause-any_moment g c).After-write_sectors in
    let kept = own-kept g at obeys leaves spread other log in
    own-run g at obeys leaves spread other log (λ left now. kept-alike c.in_ok-used.used.slot
    c.in_ok-used.used.is_in_first leaves (g.D.Disk.seen c.args.own.now.disk) left kept (durable left now))

pub returns-in-Err-write_sectors-clause-any_moment : goal.returns-in-Err-write_sectors-clause-any_moment
returns-in-Err-write_sectors-clause-any_moment g c = λ obeys leaves spread other log durable.
    let at = (goal.at.returns-in-Err-write_sectors-clause-any_moment g c).After-write_sectors in
    let kept = own-kept g at obeys leaves spread other log in
    own-run g at obeys leaves spread other log (λ left now. kept-alike c.in_ok-used.used.slot
    c.in_ok-used.used.is_in_first leaves (g.D.Disk.seen c.args.own.now.disk) left kept (durable left now))
