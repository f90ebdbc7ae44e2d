use Rattle.std.proofs.Common.{◌≡◌, ◌≤◌, length, take, drop, inl, inr, ◌∙◌, subst, ap, arith}
use Rattle.merkle_log.proofs.Givens.{known_if_ok}
use Rattle.log_file.specs.LogFile.{written}
use Rattle.log_store.specs.Disk.{After, LeavesMore, Torn}
use Rattle.log_store.specs.Store.{TornInTurn}
use Rattle.log_store.proofs.Halves.{both-halves, first-long, first-torn, front-written, second-torn, turn-torn}
use Rattle.log_store.proofs.Runs.{then_on, weaker}
use Rattle.log_store.proofs.steps.write_head.Goals.{After-write_durably-2}
use Rattle.log_store.proofs.steps.write_head.Goals as goal

-- The file ends no earlier than the first part.
inside : (g : _) (c : After-write_durably-2 g) → g.D.Disk.Obeys c.write_durably-2.new.disk
    → 64 ≤ length (g.D.Disk.seen c.write_durably.new.disk)
inside g c obeys =
    let head = c.args.head.now in
    omega (
      arith,
      ap length (c.in_ok-write_durably.ensures.written (c.write_durably-2.ensures.obeys obeys) (omega arith)),
      first-long head (omega (arith, c.fits-head)),
      front-written (take 64 head) (g.D.Disk.seen c.args.disk.now),
    )

pub returns-in_err-write_durably-clause-torn : goal.returns-in_err-write_durably-clause-torn
returns-in_err-write_durably-clause-torn g c = λ obeys.
    first-torn c.args.head.now (g.D.Disk.seen c.args.disk.now) (g.D.Disk.seen c.write_durably.new.disk)
    (omega (arith, c.fits-head))
    (c.write_durably.ensures.torn obeys (omega arith))

pub returns-in_err-write_durably-clause-any_moment : goal.returns-in_err-write_durably-clause-any_moment
returns-in_err-write_durably-clause-any_moment g c = λ obeys.
    weaker g.D.Disk c.args.disk.now c.write_durably.new.disk _ _
    (c.write_durably.ensures.any_moment obeys (omega arith))
    (λ left from. (from.0, from.1, first-torn c.args.head.now from.0 left (omega (arith, c.fits-head)) from.2))

pub returns-clause-written : goal.returns-clause-written
returns-clause-written g c = λ obeys.
    let early = c.write_durably-2.ensures.obeys obeys in
    known_if_ok c.write_durably-2.result (λ is. is
    ∙ ap (λ f. written f 64 (take 32 (drop 64 c.args.head.now)))
    (c.in_ok-write_durably.ensures.written early (omega arith))
    ∙ both-halves c.args.head.now (g.D.Disk.seen c.args.disk.now) (omega (arith, c.fits-head)))
    (c.write_durably-2.ensures.written obeys (inside g (goal.at.returns-clause-written g c).After-write_durably-2
    obeys))

pub returns-clause-torn : goal.returns-clause-torn
returns-clause-torn g c = λ obeys.
    let early = c.write_durably-2.ensures.obeys obeys in
    second-torn c.args.head.now (g.D.Disk.seen c.args.disk.now) (g.D.Disk.seen c.write_durably-2.new.disk)
    (omega (arith, c.fits-head))
    (subst (λ f. Torn 64 (take 32 (drop 64 c.args.head.now)) f (g.D.Disk.seen c.write_durably-2.new.disk))
    (c.in_ok-write_durably.ensures.written early (omega arith))
    (c.write_durably-2.ensures.torn obeys (inside g (goal.at.returns-clause-torn g c).After-write_durably-2 obeys)))

pub returns-clause-durable : goal.returns-clause-durable
returns-clause-durable g c = λ obeys.
    let early = c.write_durably-2.ensures.obeys obeys in
    let head = c.args.head.now in
    known_if_ok c.write_durably-2.result
    (λ (follows : LeavesMore (λ before left. left ≡ written before 64 (take 32 (drop 64 head)))
    (g.D.Disk.may_leave c.write_durably.new.disk) (g.D.Disk.may_leave c.write_durably-2.new.disk)). λ left now.
    let from = follows left now in
    let first = c.in_ok-write_durably.ensures.durable early (omega arith) from.0 from.1 in (
      first.0,
      first.1,
      from.2 ∙ ap (λ f. written f 64 (take 32 (drop 64 head))) first.2 ∙ both-halves head first.0
          (omega (arith, c.fits-head)),
    ))
    (c.write_durably-2.ensures.durable obeys (inside g (goal.at.returns-clause-durable g c).After-write_durably-2
    obeys))

pub returns-clause-in_turn : goal.returns-clause-in_turn
returns-clause-in_turn g c = λ obeys.
    let early = c.write_durably-2.ensures.obeys obeys in
    let head = c.args.head.now in
    let P = After (TornInTurn head) (g.D.Disk.may_leave c.args.disk.now) in
    then_on g.D.Disk c.args.disk.now c.write_durably.new.disk c.write_durably-2.new.disk P _
    (weaker g.D.Disk c.args.disk.now c.write_durably.new.disk P _
    (c.write_durably.ensures.any_moment early (omega arith)) (λ left from. (from.0, from.1, inl from.2)))
    (c.write_durably-2.ensures.any_moment obeys
    (inside g (goal.at.returns-clause-in_turn g c).After-write_durably-2 obeys))
    (λ left from.
    let first = c.in_ok-write_durably.ensures.durable early (omega arith) from.0 from.1 in (
      first.0,
      first.1,
      inr (subst (λ f. Torn 64 (take 32 (drop 64 head)) f left) first.2 from.2),
    ))

pub returns-clause-any_moment : goal.returns-clause-any_moment
returns-clause-any_moment g c = λ obeys.
    weaker g.D.Disk c.args.disk.now c.write_durably-2.new.disk _ _ (returns-clause-in_turn g c obeys)
    (λ left from. (from.0, from.1, turn-torn c.args.head.now from.0 left (omega (arith, c.fits-head)) from.2))
