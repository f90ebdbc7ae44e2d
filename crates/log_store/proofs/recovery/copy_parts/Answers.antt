use Rattle.std.proofs.Common.{◌≡◌, ◌+◌, ◌≤◌, ℕ, List, length, take, replicate, sym, ap, subst, arith}
use Rattle.std.proofs.lemmas.List.{length-replicate, length-take-le}
use Rattle.merkle_log.proofs.Givens.{known_if_ok}
use Rattle.log_store.specs.Disk.{Leaves, LeavesOnly}
use Rattle.log_store.specs.Store.{IsAllFresh, IsHeadless, LeavesJust}
use Rattle.log_store.proofs.Recovering.{blank-behind, copied-more, copied-none, fresh-more, fresh-synced, length-grown, IsCopied}
use Rattle.log_store.proofs.Runs.{begun, goes_on}
use Rattle.log_store.proofs.recovery.copy_parts.Goals.{After-write_at}
use Rattle.log_store.proofs.recovery.copy_parts.Goals as goal

-- a part behind the head
part-left : (g : _) (c : After-write_at g) → g.D.Disk.Obeys c.write_at.new.self
    → g.D.Disk.seen c.args.new.now ≡ replicate 96 0
    → ((left : List ℕ) → g.D.Disk.may_leave c.args.new.now left → IsHeadless left)
    → (left : List ℕ) → g.D.Disk.may_leave c.write_at.new.self left → IsHeadless left
part-left g c obeys zeros headless left now =
    let early = c.write_at.ensures.obeys obeys in
    let from = c.write_at.ensures.crash obeys (c.parts.invariant.long early zeros) left now in
    blank-behind (96 + c.parts.done) _ from.0 left (omega arith)
    (c.parts.invariant.blank early zeros headless from.0 from.1) from.2.cut

part-run : (g : _) (c : After-write_at g) → g.D.Disk.Obeys c.write_at.new.self
    → g.D.Disk.seen c.args.new.now ≡ replicate 96 0
    → ((left : List ℕ) → g.D.Disk.may_leave c.args.new.now left → IsHeadless left)
    → LeavesOnly g.D.Disk.moment g.D.Disk.left_since c.args.new.now c.write_at.new.self IsHeadless
part-run g c obeys zeros headless =
    goes_on g.D.Disk c.args.new.now c.parts.new c.write_at.new.self IsHeadless
    (c.parts.invariant.run (c.write_at.ensures.obeys obeys) zeros headless)
    (c.write_at.ensures.time obeys) (part-left g c obeys zeros headless)

pub parts-preserved : goal.parts-preserved
parts-preserved g c =
    let at = (goal.at.parts-preserved g c).After-write_at in
    let more = c.min-more.result in
    let done = c.parts.done in
    let piece = take more c.read_ahead.new.part in
    let count : length piece ≡ more =
    length-take-le more c.read_ahead.new.part (omega (arith, c.min-more.ensures, c.read_ahead.array_long)) in
    record {
      within = omega (arith, c.min-more.ensures, c.parts-test.true);
      obeyed = λ obeys. c.parts.invariant.obeyed (c.write_at.ensures.obeys obeys);
      copied = λ obeys old zeros inside.
          let see = g.D.Disk.seen in
          let so = c.parts.invariant.copied (c.write_at.ensures.obeys obeys) old zeros inside in
          let all : 96 + (done + more) ≤ length (see c.args.disk.now) =
          omega (arith, c.min-more.ensures, c.parts-test.true, inside) in
          subst (λ f. IsCopied (see c.args.disk.now) f (done + more))
          (sym (c.in_ok-write_at.ensures.written obeys (omega (arith, so.long))))
          (copied-more (see c.args.disk.now) (see c.parts.new) (take more c.read_ahead.new.part) done more so
          (c.in_ok-read_ahead.ensures old (omega (arith, all))) all);
      fresh = λ obeys old zeros all inside.
          let see = g.D.Disk.seen in
          let early = c.write_at.ensures.obeys obeys in
          let so = c.parts.invariant.copied early old zeros inside in
          let within : 96 + done ≤ length (see c.parts.new) = omega (arith, so.long) in
          subst (IsAllFresh (g.D.Disk.fresh c.write_at.new.self) (g.D.Disk.may_leave c.write_at.new.self))
          (sym (c.in_ok-write_at.ensures.written obeys within))
          (fresh-more (g.D.Disk.fresh c.parts.new) (g.D.Disk.fresh c.write_at.new.self)
          (g.D.Disk.may_leave c.parts.new) (g.D.Disk.may_leave c.write_at.new.self) (see c.parts.new) piece
          (96 + done) so.long (c.parts.invariant.fresh early old zeros all inside)
          (c.write_at.ensures.crash obeys within) (c.in_ok-write_at.ensures.fresh obeys within)
          (c.write_at.ensures.apart obeys within));
      run = λ obeys zeros headless. part-run g at obeys zeros headless;
      blank = λ obeys zeros headless. part-left g at obeys zeros headless;
      long = λ obeys zeros.
          let within = c.parts.invariant.long (c.write_at.ensures.obeys obeys) zeros in
          omega (
            arith,
            within,
            count,
            ap length (c.in_ok-write_at.ensures.written obeys within),
            length-grown (g.D.Disk.seen c.parts.new) piece (96 + done) within,
          );
    }

pub parts-init : goal.parts-init
parts-init g c = record {
  within = omega arith;
  obeyed = λ obeys. obeys;
  copied = λ obeys old zeros inside. copied-none (g.D.Disk.seen c.args.disk.now) (g.D.Disk.seen c.args.new.now) zeros;
  fresh = λ obeys old zeros all inside. all;
  run = λ obeys zeros headless. begun g.D.Disk c.args.new.now IsHeadless
      (λ left since. headless left (g.met.D.Disk.only_now c.args.new.now left since));
  blank = λ obeys zeros headless. headless;
  long = λ obeys zeros. omega (arith, ap length zeros, length-replicate {A = ℕ} 96 0);
}

pub returns-in_err-write_at-clause-any_moment : goal.returns-in_err-write_at-clause-any_moment
returns-in_err-write_at-clause-any_moment g c = λ obeys zeros headless.
    part-run g (goal.at.returns-in_err-write_at-clause-any_moment g c).After-write_at obeys zeros headless

pub returns-clause-any_moment : goal.returns-clause-any_moment
returns-clause-any_moment g c = λ obeys zeros headless.
    let early = c.sync.ensures.obeys obeys in
    goes_on g.D.Disk c.args.new.now c.parts.new c.sync.new.self IsHeadless (c.parts.invariant.run early zeros headless)
    (c.sync.ensures.time obeys)
    (λ left now. c.parts.invariant.blank early zeros headless left (c.sync.ensures.crash obeys left now))

pub returns-clause-durable : goal.returns-clause-durable
returns-clause-durable g c = λ obeys old zeros all inside.
    let early = c.sync.ensures.obeys obeys in
    known_if_ok c.sync.result (λ (durable : (at : ℕ) (bytes : List ℕ) → g.D.Disk.fresh c.parts.new at bytes
    → Leaves at bytes (g.D.Disk.may_leave c.sync.new.self)).
    subst (λ f. LeavesJust f (g.D.Disk.may_leave c.sync.new.self)) (sym (c.sync.ensures.same obeys))
    (fresh-synced (g.D.Disk.fresh c.parts.new) (g.D.Disk.may_leave c.parts.new) (g.D.Disk.may_leave c.sync.new.self)
    (g.D.Disk.seen c.parts.new) (c.parts.invariant.fresh early old zeros all inside)
    (c.sync.ensures.crash obeys) durable)) (c.sync.ensures.durable obeys)
