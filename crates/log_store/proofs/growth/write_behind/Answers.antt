use Rattle.std.proofs.Common.{◌≡◌, ◌≤◌, ◌+◌, ℕ, List, inr, length, refl, ap, ◌∙◌, subst, sym, arith}
use Rattle.log_file.specs.LogFile.{written}
use Rattle.log_file.proofs.Heads.{length-statement}
use Rattle.log_store.specs.Disk.{After, Cut, LeavesOnly, TornTwice}
use Rattle.log_store.proofs.Runs.{begun, goes_on}
use Rattle.log_store.proofs.Tearing.{longer-written}
use Rattle.log_store.proofs.Writes.{both-whole, cut-not, torn-not}
use Rattle.log_store.proofs.growth.write_behind.Goals.{After-write_at, After-write_at-2}
use Rattle.log_store.proofs.growth.write_behind.Goals as goal

-- what a crash may leave of it
abbrev Torn-in : (g : _) (c : After-write_at g) → List ℕ → Type 0
Torn-in g c left = After (TornTwice c.args.place c.args.bytes.now c.args.slot_end 12)
    (g.D.Disk.may_leave c.args.disk.now) left

abbrev Torn-in-2 : (g : _) (c : After-write_at-2 g) → List ℕ → Type 0
Torn-in-2 g c left = After (TornTwice c.args.place c.args.bytes.now c.args.slot_end 12)
    (g.D.Disk.may_leave c.args.disk.now) left

-- the first write
once : (g : _) (c : After-write_at g) → g.D.Disk.Obeys c.write_at.new.self
    → c.args.place ≤ length (g.D.Disk.seen c.args.disk.now)
    → LeavesOnly g.D.Disk.moment g.D.Disk.left_since c.args.disk.now c.write_at.new.self (Torn-in g c)
once g c obeys inside =
    let old = c.args.disk.now in
    let at = c.args.place in
    let bytes = c.args.bytes.now in
    let to = c.args.slot_end in
    goes_on g.D.Disk old old c.write_at.new.self (Torn-in g c) (begun g.D.Disk old (Torn-in g c)
    (λ left since. (
      left,
      g.met.D.Disk.only_now old left since,
      (left, torn-not at bytes left left refl, cut-not to 12 left left refl),
    ))) (c.write_at.ensures.time obeys) (λ left now. let from = c.write_at.ensures.crash obeys inside left now in
    (from.0, from.1, (left, from.2, cut-not to 12 left left refl)))

-- where the second one stands
within : (g : _) (c : After-write_at-2 g) → g.D.Disk.Obeys c.write_at-2.new.self
    → c.args.place ≤ length (g.D.Disk.seen c.args.disk.now)
    → c.args.slot_end ≤ length (g.D.Disk.seen c.write_at.new.self)
within g c obeys inside = omega (
  arith,
  c.requires.apart,
  inside,
  ap length (c.in_ok-write_at.ensures.written (c.write_at-2.ensures.obeys obeys) inside),
  longer-written (g.D.Disk.seen c.args.disk.now) c.args.bytes.now c.args.place inside,
)

statement-long : (g : _) (c : After-write_at-2 g) → length c.statement_of.result ≡ 12
statement-long g c = ap length c.statement_of.ensures ∙ length-statement c.args.size c.in_ok-root.root

-- what it leaves
second-left : (g : _) (c : After-write_at-2 g) → g.D.Disk.Obeys c.write_at-2.new.self
    → c.args.place ≤ length (g.D.Disk.seen c.args.disk.now) → (left : List ℕ)
    → g.D.Disk.may_leave c.write_at-2.new.self left → Torn-in-2 g c left
second-left g c obeys inside left now =
    let early = c.write_at-2.ensures.obeys obeys in
    let from = c.write_at-2.ensures.crash obeys (within g c obeys inside) left now in
    let first = c.write_at.ensures.crash early inside from.0 from.1 in (
      first.0,
      first.1,
      (from.0, first.2, subst (λ n. Cut c.args.slot_end n from.0 left) (statement-long g c) from.2.cut),
    )

-- both writes
twice : (g : _) (c : After-write_at-2 g) → g.D.Disk.Obeys c.write_at-2.new.self
    → c.args.place ≤ length (g.D.Disk.seen c.args.disk.now)
    → LeavesOnly g.D.Disk.moment g.D.Disk.left_since c.args.disk.now c.write_at.new.self (Torn-in-2 g c)
    → LeavesOnly g.D.Disk.moment g.D.Disk.left_since c.args.disk.now c.write_at-2.new.self (Torn-in-2 g c)
twice g c obeys inside first =
    goes_on g.D.Disk c.args.disk.now c.write_at.new.self c.write_at-2.new.self (Torn-in-2 g c) first
    (c.write_at-2.ensures.time obeys) (second-left g c obeys inside)

-- what is read then
seen-twice : (g : _) (c : After-write_at-2 g) → g.D.Disk.Obeys c.write_at-2.new.self
    → c.args.place ≤ length (g.D.Disk.seen c.args.disk.now)
    → TornTwice c.args.place c.args.bytes.now c.args.slot_end 12 (g.D.Disk.seen c.args.disk.now)
    (g.D.Disk.seen c.write_at-2.new.self)
seen-twice g c obeys inside =
    let there = g.D.Disk.seen c.write_at.new.self in (
      there,
      c.write_at.ensures.torn (c.write_at-2.ensures.obeys obeys) inside,
      subst (λ n. Cut c.args.slot_end n there (g.D.Disk.seen c.write_at-2.new.self)) (statement-long g c)
          (c.write_at-2.ensures.torn obeys (within g c obeys inside)).cut,
    )

seen-once : (g : _) (c : After-write_at g) → g.D.Disk.Obeys c.write_at.new.self
    → c.args.place ≤ length (g.D.Disk.seen c.args.disk.now)
    → TornTwice c.args.place c.args.bytes.now c.args.slot_end 12 (g.D.Disk.seen c.args.disk.now)
    (g.D.Disk.seen c.write_at.new.self)
seen-once g c obeys inside =
    let there = g.D.Disk.seen c.write_at.new.self in
    (there, c.write_at.ensures.torn obeys inside, cut-not c.args.slot_end 12 there there refl)

pub returns-in_err-write_at-clause-any_moment : goal.returns-in_err-write_at-clause-any_moment
returns-in_err-write_at-clause-any_moment g c = λ obeys inside.
    once g (goal.at.returns-in_err-write_at-clause-any_moment g c).After-write_at obeys inside

pub returns-in_err-root-clause-any_moment : goal.returns-in_err-root-clause-any_moment
returns-in_err-root-clause-any_moment g c = λ obeys inside.
    once g (goal.at.returns-in_err-root-clause-any_moment g c).After-write_at obeys inside

pub returns-in_err-write_at-2-clause-any_moment : goal.returns-in_err-write_at-2-clause-any_moment
returns-in_err-write_at-2-clause-any_moment g c = λ obeys inside.
    let at = goal.at.returns-in_err-write_at-2-clause-any_moment g c in
    twice g at.After-write_at-2 obeys inside (once g at.After-write_at (c.write_at-2.ensures.obeys obeys) inside)

pub returns-in_err-sync-clause-any_moment : goal.returns-in_err-sync-clause-any_moment
returns-in_err-sync-clause-any_moment g c = λ obeys inside.
    let at = goal.at.returns-in_err-sync-clause-any_moment g c in
    let before = c.sync.ensures.obeys obeys in
    goes_on g.D.Disk c.args.disk.now c.write_at-2.new.self c.sync.new.self (Torn-in-2 g at.After-write_at-2)
    (twice g at.After-write_at-2 before inside (once g at.After-write_at (c.write_at-2.ensures.obeys before) inside))
    (c.sync.ensures.time obeys)
    (λ left now. second-left g at.After-write_at-2 before inside left (c.sync.ensures.crash obeys left now))

pub returns-clause-any_moment : goal.returns-clause-any_moment
returns-clause-any_moment g c = λ obeys inside.
    let at = goal.at.returns-clause-any_moment g c in
    let before = c.sync.ensures.obeys obeys in
    goes_on g.D.Disk c.args.disk.now c.write_at-2.new.self c.sync.new.self (Torn-in-2 g at.After-write_at-2)
    (twice g at.After-write_at-2 before inside (once g at.After-write_at (c.write_at-2.ensures.obeys before) inside))
    (c.sync.ensures.time obeys)
    (λ left now. second-left g at.After-write_at-2 before inside left (c.sync.ensures.crash obeys left now))

pub returns-in_err-write_at-clause-torn : goal.returns-in_err-write_at-clause-torn
returns-in_err-write_at-clause-torn g c = λ obeys inside.
    seen-once g (goal.at.returns-in_err-write_at-clause-torn g c).After-write_at obeys inside

pub returns-in_err-root-clause-torn : goal.returns-in_err-root-clause-torn
returns-in_err-root-clause-torn g c = λ obeys inside.
    seen-once g (goal.at.returns-in_err-root-clause-torn g c).After-write_at obeys inside

pub returns-in_err-write_at-2-clause-torn : goal.returns-in_err-write_at-2-clause-torn
returns-in_err-write_at-2-clause-torn g c = λ obeys inside.
    seen-twice g (goal.at.returns-in_err-write_at-2-clause-torn g c).After-write_at-2 obeys inside

-- a sync changes nothing that is read
synced : (at : ℕ) (bytes : List ℕ) (to : ℕ) {old file new : List ℕ} → new ≡ file → TornTwice at bytes to 12 old file
    → TornTwice at bytes to 12 old new
synced at bytes to {old} same torn = subst (TornTwice at bytes to 12 old) (sym same) torn

pub returns-in_err-sync-clause-torn : goal.returns-in_err-sync-clause-torn
returns-in_err-sync-clause-torn g c = λ obeys inside.
    synced c.args.place c.args.bytes.now c.args.slot_end (c.sync.ensures.same obeys)
    (seen-twice g (goal.at.returns-in_err-sync-clause-torn g c).After-write_at-2 (c.sync.ensures.obeys obeys) inside)

pub returns-clause-torn : goal.returns-clause-torn
returns-clause-torn g c = λ obeys inside.
    synced c.args.place c.args.bytes.now c.args.slot_end (c.sync.ensures.same obeys)
    (seen-twice g (goal.at.returns-clause-torn g c).After-write_at-2 (c.sync.ensures.obeys obeys) inside)

pub returns-clause-durable : goal.returns-clause-durable
returns-clause-durable g c = λ obeys inside left now.
    let at = goal.at.returns-clause-durable g c in
    let before = c.sync.ensures.obeys obeys in
    let early = c.write_at-2.ensures.obeys before in
    let place = c.args.place in
    let bytes = c.args.bytes.now in
    let to = c.args.slot_end in
    let more = c.statement_of.result in
    let second = c.write_at-2.ensures.crash before (within g at.After-write_at-2 before inside) left
    (c.sync.ensures.crash obeys left now) in
    let first = c.write_at.ensures.crash early inside second.0 second.1 in
    let durable = c.in_ok-sync.ensures.durable obeys in
    let apart : to + length more ≤ place = omega (arith, c.requires.apart, statement-long g at.After-write_at-2) in
    subst (λ end. After (λ file new. new ≡ written (written file place bytes) to end)
    (g.D.Disk.may_leave c.args.disk.now) left) c.statement_of.ensures (
      first.0,
      first.1,
      both-whole place bytes to more first.0 second.0 left apart first.2.cut second.2.cut
          (durable place bytes (c.write_at-2.ensures.apart before (within g at.After-write_at-2 before inside) place
          bytes
          (inr apart) (c.in_ok-write_at.ensures.fresh early inside)) left now)
          (durable to more (c.in_ok-write_at-2.ensures.fresh before (within g at.After-write_at-2 before inside)) left
          now),
    )
