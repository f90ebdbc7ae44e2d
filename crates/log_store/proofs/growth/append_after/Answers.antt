use Rattle.std.proofs.Common.{inr, refl, Ok, ap, sym, ◌∙◌}
use Rattle.ark_base.specs.Laws.Steps.{done_injective}
use Rattle.ark_base.specs.declared.error.Error.{Error}
use Rattle.merkle_log.proofs.Givens.{known_anyway}
use Rattle.log_file.specs.LogFile.{slot_to_take}
use Rattle.log_store.specs.Store.{IsMidAppend}
use Rattle.log_store.proofs.Runs.{begun}
use Rattle.log_store.proofs.Stages.{kept-still, mid-begins}
use Rattle.log_store.proofs.growth.append_after.Goals as goal

pub returns-in_err-log-clause-any_moment : goal.returns-in_err-log-clause-any_moment
returns-in_err-log-clause-any_moment g c = λ obeys leaves log durable.
    let file = g.D.Disk.seen c.args.disk.now in
    begun g.D.Disk c.args.disk.now (IsMidAppend leaves c.args.digests.now file) (λ left since.
    mid-begins leaves c.args.digests.now file left log (durable left (g.met.D.Disk.only_now c.args.disk.now left
    since)))

pub returns-in_err-log-clause-left : goal.returns-in_err-log-clause-left
returns-in_err-log-clause-left g c = λ obeys leaves log.
    let file = g.D.Disk.seen c.args.disk.now in
    mid-begins leaves c.args.digests.now file file log refl

pub returns-in_err-log-clause-kept : goal.returns-in_err-log-clause-kept
returns-in_err-log-clause-kept g c = λ obeys leaves log durable.
    kept-still leaves c.args.digests.now (g.D.Disk.seen c.args.disk.now) (g.D.Disk.may_leave c.args.disk.now) c.requires
    log durable

pub returns-then-not-is-clause-any_moment : goal.returns-then-not-is-clause-any_moment
returns-then-not-is-clause-any_moment g c = λ obeys leaves log durable.
    let file = g.D.Disk.seen c.args.disk.now in
    begun g.D.Disk c.args.disk.now (IsMidAppend leaves c.args.digests.now file) (λ left since.
    mid-begins leaves c.args.digests.now file left log (durable left (g.met.D.Disk.only_now c.args.disk.now left
    since)))

pub returns-then-not-is-clause-left : goal.returns-then-not-is-clause-left
returns-then-not-is-clause-left g c = λ obeys leaves log.
    let file = g.D.Disk.seen c.args.disk.now in
    mid-begins leaves c.args.digests.now file file log refl

pub returns-then-not-is-clause-kept : goal.returns-then-not-is-clause-kept
returns-then-not-is-clause-kept g c = λ obeys leaves log durable.
    kept-still leaves c.args.digests.now (g.D.Disk.seen c.args.disk.now) (g.D.Disk.may_leave c.args.disk.now) c.requires
    log durable

pub returns-clause-after : goal.returns-clause-after
returns-clause-after g c = λ obeys.
    let seen = g.D.Disk.seen c.args.disk.now in
    let before = c.append.ensures.obeys obeys in
    let same = c.is.ensures.0 c.if-not-is.false in
    known_anyway c.append.result (
      c.in_ok-log.ensures.size before ∙ ap Ok same.0,
      (
        c.in_ok-log.log.is_second_free,
        ap (λ n. slot_to_take seen n c.args.root.now) (sym same.0)
            ∙ ap (λ top. slot_to_take seen c.in_ok-log.log.size top) (sym same.1) ∙ c.in_ok-log.ensures.states before,
      ),
    )

pub returns-clause-log : goal.returns-clause-log
returns-clause-log g c = λ obeys leaves log.
    let known = c.in_ok-log.ensures.log (c.append.ensures.obeys obeys) leaves log in
    let same = c.is.ensures.0 c.if-not-is.false in
    known_anyway c.append.result (known.0 ∙ same.0, known.1 ∙ ap Ok same.1)

pub returns-then-not-is-clause-refused : goal.returns-then-not-is-clause-refused
returns-then-not-is-clause-refused g c = λ obeys. inr (
  refl,
  λ leaves log count top.
      let known = c.in_ok-log.ensures.log obeys leaves log in
      let same = c.is.ensures.1 (sym known.0 ∙ count, done_injective {E = Error} _ _ (sym known.1 ∙ top)) in
      let not = c.if-not-is.true in
      cc,
)
