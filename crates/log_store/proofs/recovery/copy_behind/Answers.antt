use Rattle.std.proofs.Common.{◌≡◌, ℕ, List, [], length, replicate, sym, ap, ◌∙◌, subst, arith}
use Rattle.log_store.specs.Disk.{LeavesOnly}
use Rattle.log_store.specs.Store.{IsAllFresh, IsHeadless, IsNewFile, LeavesJust}
use Rattle.log_store.proofs.Recovering.{blank-begun, blank-new, fresh-more, new-none, new-zeros, zeros-put}
use Rattle.log_store.proofs.Runs.{begun, goes_on, then_on}
use Rattle.log_store.proofs.recovery.copy_behind.Goals.{After-write_at}
use Rattle.log_store.proofs.recovery.copy_behind.Goals as goal

-- The file has no byte, and gets zeros.
none-of : (g : _) (c : After-write_at g) → g.D.Disk.Obeys c.write_at.new.self
    → IsNewFile (g.D.Disk.seen c.args.new.now) → g.D.Disk.seen c.args.new.now ≡ []
none-of g c obeys new = new-none (g.D.Disk.seen c.args.new.now) new
    (omega (arith, c.in_ok-there.ensures (c.write_at.ensures.obeys obeys), c.if-there-eq0.true))

zeros-left : (g : _) (c : After-write_at g) → g.D.Disk.Obeys c.write_at.new.self
    → IsNewFile (g.D.Disk.seen c.args.new.now)
    → LeavesJust (g.D.Disk.seen c.args.new.now) (g.D.Disk.may_leave c.args.new.now) → (left : List ℕ)
    → g.D.Disk.may_leave c.write_at.new.self left → IsHeadless left
zeros-left g c obeys new just left now =
    let from = c.write_at.ensures.crash obeys (omega arith) left now in
    blank-begun from.0 left (just from.0 from.1 ∙ none-of g c obeys new) from.2

zeros-run : (g : _) (c : After-write_at g) → g.D.Disk.Obeys c.write_at.new.self
    → IsNewFile (g.D.Disk.seen c.args.new.now)
    → LeavesJust (g.D.Disk.seen c.args.new.now) (g.D.Disk.may_leave c.args.new.now)
    → LeavesOnly g.D.Disk.moment g.D.Disk.left_since c.args.new.now c.write_at.new.self IsHeadless
zeros-run g c obeys new just =
    goes_on g.D.Disk c.args.new.now c.args.new.now c.write_at.new.self IsHeadless
    (begun g.D.Disk c.args.new.now IsHeadless (λ left since. blank-new (g.D.Disk.seen c.args.new.now) left new
    (just left (g.met.D.Disk.only_now c.args.new.now left since))))
    (c.write_at.ensures.time obeys) (zeros-left g c obeys new just)

pub returns-in_err-there-clause-any_moment : goal.returns-in_err-there-clause-any_moment
returns-in_err-there-clause-any_moment g c = λ obeys new just.
    begun g.D.Disk c.args.new.now IsHeadless (λ left since. blank-new (g.D.Disk.seen c.args.new.now) left new
    (just left (g.met.D.Disk.only_now c.args.new.now left since)))

pub returns-in_err-write_at-clause-any_moment : goal.returns-in_err-write_at-clause-any_moment
returns-in_err-write_at-clause-any_moment g c = λ obeys new just.
    zeros-run g (goal.at.returns-in_err-write_at-clause-any_moment g c).After-write_at obeys new just

-- ---- behind these zeros

pub returns-then-there-eq0-clause-copied : goal.returns-then-there-eq0-clause-copied
returns-then-there-eq0-clause-copied g c = λ obeys old new inside.
    let a = (goal.at.returns-then-there-eq0-clause-copied g c).After-write_at in
    let early = c.copy_parts.ensures.obeys obeys in
    c.copy_parts.ensures.copied obeys old
    (zeros-put (g.D.Disk.seen c.args.new.now) (g.D.Disk.seen c.write_at.new.self) (none-of g a early new)
    (c.in_ok-write_at.ensures.written early (omega arith))) inside

pub returns-then-there-eq0-clause-durable : goal.returns-then-there-eq0-clause-durable
returns-then-there-eq0-clause-durable g c = λ obeys old new just inside.
    let a = (goal.at.returns-then-there-eq0-clause-durable g c).After-write_at in
    let early = c.copy_parts.ensures.obeys obeys in
    let none = none-of g a early new in
    let is = c.in_ok-write_at.ensures.written early (omega arith) in
    c.copy_parts.ensures.durable obeys old
    (zeros-put (g.D.Disk.seen c.args.new.now) (g.D.Disk.seen c.write_at.new.self) none is)
    (subst (IsAllFresh (g.D.Disk.fresh c.write_at.new.self) (g.D.Disk.may_leave c.write_at.new.self)) (sym is)
    (fresh-more (g.D.Disk.fresh c.args.new.now) (g.D.Disk.fresh c.write_at.new.self)
    (g.D.Disk.may_leave c.args.new.now) (g.D.Disk.may_leave c.write_at.new.self) (g.D.Disk.seen c.args.new.now)
    (replicate 96 0) 0 (ap length none) (λ left now has. just left now)
    (c.write_at.ensures.crash early (omega arith)) (c.in_ok-write_at.ensures.fresh early (omega arith))
    (c.write_at.ensures.apart early (omega arith)))) inside

pub returns-then-there-eq0-clause-any_moment : goal.returns-then-there-eq0-clause-any_moment
returns-then-there-eq0-clause-any_moment g c = λ obeys new just.
    let a = (goal.at.returns-then-there-eq0-clause-any_moment g c).After-write_at in
    let early = c.copy_parts.ensures.obeys obeys in
    then_on g.D.Disk c.args.new.now c.write_at.new.self c.copy_parts.new.new IsHeadless IsHeadless
    (zeros-run g a early new just)
    (c.copy_parts.ensures.any_moment obeys (zeros-put (g.D.Disk.seen c.args.new.now)
    (g.D.Disk.seen c.write_at.new.self) (none-of g a early new)
    (c.in_ok-write_at.ensures.written early (omega arith))) (zeros-left g a early new just))
    (λ left headless. headless)

-- ---- behind zeros that were there

pub returns-clause-copied : goal.returns-clause-copied
returns-clause-copied g c = λ obeys old new inside.
    let early = c.copy_parts-2.ensures.obeys obeys in
    c.copy_parts-2.ensures.copied obeys old (new-zeros (g.D.Disk.seen c.args.new.now) new
    (λ short. c.if-there-eq0.false (c.in_ok-there.ensures early ∙ short))) inside

pub returns-clause-durable : goal.returns-clause-durable
returns-clause-durable g c = λ obeys old new just inside.
    let early = c.copy_parts-2.ensures.obeys obeys in
    c.copy_parts-2.ensures.durable obeys old (new-zeros (g.D.Disk.seen c.args.new.now) new
    (λ short. c.if-there-eq0.false (c.in_ok-there.ensures early ∙ short))) (λ left now has. just left now) inside

pub returns-clause-any_moment : goal.returns-clause-any_moment
returns-clause-any_moment g c = λ obeys new just.
    let early = c.copy_parts-2.ensures.obeys obeys in
    c.copy_parts-2.ensures.any_moment obeys (new-zeros (g.D.Disk.seen c.args.new.now) new
    (λ short. c.if-there-eq0.false (c.in_ok-there.ensures early ∙ short)))
    (λ left now. blank-new (g.D.Disk.seen c.args.new.now) left new (just left now))
