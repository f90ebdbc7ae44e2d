use Rattle.std.proofs.Common.{◌≤◌, ℕ, List, length, refl, subst, sym}
use Rattle.merkle_log.proofs.Givens.{known_if_ok}
use Rattle.log_store.specs.Disk.{After, Leaves, LeavesOnly, Torn}
use Rattle.log_store.proofs.Runs.{begun, goes_on}
use Rattle.log_store.proofs.Writes.{cut-whole, torn-not}
use Rattle.log_store.proofs.steps.write_durably.Goals.{After-write_at}
use Rattle.log_store.proofs.steps.write_durably.Goals as goal

-- the write
once : (g : _) (c : After-write_at g) → g.D.Disk.Obeys c.write_at.new.self
    → c.args.at ≤ length (g.D.Disk.seen c.args.disk.now)
    → LeavesOnly g.D.Disk.moment g.D.Disk.left_since c.args.disk.now c.write_at.new.self
    (After (Torn c.args.at c.args.bytes.now) (g.D.Disk.may_leave c.args.disk.now))
once g c obeys inside =
    let old = c.args.disk.now in
    let P = After (Torn c.args.at c.args.bytes.now) (g.D.Disk.may_leave old) in
    goes_on g.D.Disk old old c.write_at.new.self P (begun g.D.Disk old P
    (λ left since. (left, g.met.D.Disk.only_now old left since, torn-not c.args.at c.args.bytes.now left left refl)))
    (c.write_at.ensures.time obeys) (c.write_at.ensures.crash obeys inside)

pub returns-in_err-write_at-clause-any_moment : goal.returns-in_err-write_at-clause-any_moment
returns-in_err-write_at-clause-any_moment g c = λ obeys inside.
    once g (goal.at.returns-in_err-write_at-clause-any_moment g c).After-write_at obeys inside

pub returns-clause-any_moment : goal.returns-clause-any_moment
returns-clause-any_moment g c = λ obeys inside.
    let early = c.sync.ensures.obeys obeys in
    let old = c.args.disk.now in
    goes_on g.D.Disk old c.write_at.new.self c.sync.new.self
    (After (Torn c.args.at c.args.bytes.now) (g.D.Disk.may_leave old))
    (once g (goal.at.returns-clause-any_moment g c).After-write_at early inside) (c.sync.ensures.time obeys)
    (λ left now. c.write_at.ensures.crash early inside left (c.sync.ensures.crash obeys left now))

pub returns-clause-torn : goal.returns-clause-torn
returns-clause-torn g c = λ obeys inside.
    subst (Torn c.args.at c.args.bytes.now (g.D.Disk.seen c.args.disk.now)) (sym (c.sync.ensures.same obeys))
    (c.write_at.ensures.torn (c.sync.ensures.obeys obeys) inside)

pub returns-clause-durable : goal.returns-clause-durable
returns-clause-durable g c = λ obeys inside.
    let early = c.sync.ensures.obeys obeys in
    let at = c.args.at in
    let bytes = c.args.bytes.now in
    known_if_ok c.sync.result (λ (durable : (place : ℕ) (piece : List ℕ)
    → g.D.Disk.fresh c.write_at.new.self place piece → Leaves place piece (g.D.Disk.may_leave c.sync.new.self)).
    λ left now. let from = c.write_at.ensures.crash early inside left (c.sync.ensures.crash obeys left now) in (
      from.0,
      from.1,
      cut-whole at bytes from.0 left from.2.cut
          (durable at bytes (c.in_ok-write_at.ensures.fresh early inside) left now),
    )) (c.sync.ensures.durable obeys)
