use Rattle.std.proofs.Common.{◌≤◌, ℕ, List, length, refl}
use Rattle.log_store.specs.Disk.{Torn}
use Rattle.log_store.specs.Sectors.{laid, LiesAt}
use Rattle.log_store.proofs.Laid.{crash-any, inside-any, torn-any, written-any}
use Rattle.log_store.proofs.Writes.{torn-not}
use Rattle.log_store.proofs.sectors.write_laid.Goals.{After-write_at}
use Rattle.log_store.proofs.sectors.write_laid.Goals as goal

-- The place is no later than the end of the file.
inside : (g : _) (c : After-write_at g) → g.D.Disk.Obeys c.write_at.new.self → (at : ℕ) (bytes : List ℕ)
    → LiesAt c.args.layout at bytes c.args.place c.args.own.now
    → at ≤ length (laid c.args.layout (g.D.Disk.seen c.args.disk.now))
    → c.args.place ≤ length (g.D.Disk.seen c.args.disk.now)
inside g c obeys at bytes lies within =
    inside-any c.args.layout at bytes c.args.place c.args.own.now (g.D.Disk.seen c.args.disk.now) lies
    (c.in_default.ensures (c.write_at.ensures.obeys obeys)) within

pub returns-in-Err-clause-crash : goal.returns-in-Err-clause-crash
returns-in-Err-clause-crash g c = λ obeys at bytes lies within left now.
    (left, now, torn-not at bytes left left refl)

pub returns-in-Ok-clause-written : goal.returns-in-Ok-clause-written
returns-in-Ok-clause-written g c = λ obeys at bytes lies within.
    let a = (goal.at.returns-in-Ok-clause-written g c).After-write_at in
    let in_file = inside g a obeys at bytes lies within in
    written-any c.args.layout at bytes c.args.place c.args.own.now (g.D.Disk.seen c.args.disk.now)
    (g.D.Disk.seen c.write_at.new.self) lies in_file (c.write_at.ensures.torn obeys in_file)
    (c.in-Ok.ensures.written obeys in_file)

torn : (g : _) (c : After-write_at g) → g.D.Disk.Obeys c.write_at.new.self → (at : ℕ) (bytes : List ℕ)
    → LiesAt c.args.layout at bytes c.args.place c.args.own.now
    → at ≤ length (laid c.args.layout (g.D.Disk.seen c.args.disk.now))
    → Torn at bytes (laid c.args.layout (g.D.Disk.seen c.args.disk.now))
    (laid c.args.layout (g.D.Disk.seen c.write_at.new.self))
torn g c obeys at bytes lies within = torn-any c.args.layout at bytes c.args.place c.args.own.now
    (g.D.Disk.seen c.args.disk.now) (g.D.Disk.seen c.write_at.new.self) lies
    (c.write_at.ensures.torn obeys (inside g c obeys at bytes lies within))

pub returns-in-Ok-clause-torn : goal.returns-in-Ok-clause-torn
returns-in-Ok-clause-torn g c = torn g (goal.at.returns-in-Ok-clause-torn g c).After-write_at

pub returns-in-Err-write_at-clause-torn : goal.returns-in-Err-write_at-clause-torn
returns-in-Err-write_at-clause-torn g c = torn g (goal.at.returns-in-Err-write_at-clause-torn g c).After-write_at

pub returns-in-Ok-clause-crash : goal.returns-in-Ok-clause-crash
returns-in-Ok-clause-crash g c = λ obeys at bytes lies within.
    let a = (goal.at.returns-in-Ok-clause-crash g c).After-write_at in
    crash-any c.args.layout at bytes c.args.place c.args.own.now (g.D.Disk.may_leave c.args.disk.now)
    (g.D.Disk.may_leave c.write_at.new.self) lies (c.write_at.ensures.crash obeys
    (inside g a obeys at bytes lies within))

pub returns-in-Err-write_at-clause-crash : goal.returns-in-Err-write_at-clause-crash
returns-in-Err-write_at-clause-crash g c = λ obeys at bytes lies within.
    let a = (goal.at.returns-in-Err-write_at-clause-crash g c).After-write_at in
    crash-any c.args.layout at bytes c.args.place c.args.own.now (g.D.Disk.may_leave c.args.disk.now)
    (g.D.Disk.may_leave c.write_at.new.self) lies (c.write_at.ensures.crash obeys
    (inside g a obeys at bytes lies within))

pub returns-in-Ok-clause-fresh : goal.returns-in-Ok-clause-fresh
returns-in-Ok-clause-fresh g c = λ obeys at bytes lies within.
    let a = (goal.at.returns-in-Ok-clause-fresh g c).After-write_at in
    c.in-Ok.ensures.fresh obeys (inside g a obeys at bytes lies within)

pub returns-in-Ok-clause-apart : goal.returns-in-Ok-clause-apart
returns-in-Ok-clause-apart g c = λ obeys at bytes lies within spot earlier apart.
    let a = (goal.at.returns-in-Ok-clause-apart g c).After-write_at in
    c.write_at.ensures.apart obeys (inside g a obeys at bytes lies within) spot earlier apart

pub returns-in-Err-write_at-clause-apart : goal.returns-in-Err-write_at-clause-apart
returns-in-Err-write_at-clause-apart g c = λ obeys at bytes lies within spot earlier apart.
    let a = (goal.at.returns-in-Err-write_at-clause-apart g c).After-write_at in
    c.write_at.ensures.apart obeys (inside g a obeys at bytes lies within) spot earlier apart
