use Rattle.std.proofs.Common.{◌≡◌, ℕ, List, [], inl, inr, refl, sym, ap, ◌∙◌, subst, arith}
use Rattle.log_file.specs.LogFile.{written}
use Rattle.log_store.specs.Disk.{LeavesOnly, Torn}
use Rattle.log_store.specs.Sectors.{laid, layout_in, sectors_head}
use Rattle.log_store.specs.Store.{IsPartOf, IsSettled}
use Rattle.log_store.specs.declared.sectors.Layout.TheVariants.{Apart}
use Rattle.log_store.proofs.Runs.{begun, weaker}
use Rattle.log_store.proofs.Sectoring.{older-other, part-over, part-torn, sectors-lie, sectors-settled}
use Rattle.log_store.proofs.new_log.lay_out.Goals.{After-write_durably}
use Rattle.log_store.proofs.new_log.lay_out.Goals as goal

-- What is written over is a part of the sectors, and a crash leaves one.
part-of : (g : _) (c : After-write_durably g) → g.D.Disk.Obeys c.write_durably.new.disk
    → IsPartOf sectors_head (g.D.Disk.seen c.args.disk.now)
part-of g c obeys = subst (λ h. IsPartOf h (g.D.Disk.seen c.args.disk.now)) c.sectors_head-head.ensures
    (c.in_ok-is_new.ensures.part (c.write_durably.ensures.obeys obeys) c.if-not-is_new.false)

parts-left : (g : _) (c : After-write_durably g) → g.D.Disk.Obeys c.write_durably.new.disk
    → ((left : List ℕ) → g.D.Disk.may_leave c.args.disk.now left → IsPartOf sectors_head left)
    → LeavesOnly g.D.Disk.moment g.D.Disk.left_since c.args.disk.now c.write_durably.new.disk (IsPartOf sectors_head)
parts-left g c obeys parts =
    weaker g.D.Disk c.args.disk.now c.write_durably.new.disk (IsPartOf sectors_head) _
    (c.write_durably.ensures.any_moment obeys (omega arith))
    (λ left torn. part-torn sectors_head torn.0 left (parts torn.0 torn.1)
    (subst (λ h. Torn 0 h torn.0 left) c.sectors_head-head.ensures torn.2))

part-seen : (g : _) (c : After-write_durably g) → g.D.Disk.Obeys c.write_durably.new.disk
    → IsPartOf sectors_head (g.D.Disk.seen c.write_durably.new.disk)
part-seen g c obeys =
    part-torn sectors_head (g.D.Disk.seen c.args.disk.now) (g.D.Disk.seen c.write_durably.new.disk)
    (part-of g c obeys)
    (subst (λ h. Torn 0 h (g.D.Disk.seen c.args.disk.now) (g.D.Disk.seen c.write_durably.new.disk))
    c.sectors_head-head.ensures (c.write_durably.ensures.torn obeys (omega arith)))

-- ---- nothing is written

pub returns-in_err-is_new-clause-others_moment : goal.returns-in_err-is_new-clause-others_moment
returns-in_err-is_new-clause-others_moment g c = λ obeys. inr (begun g.D.Disk c.args.disk.now
    (g.D.Disk.may_leave c.args.disk.now) (λ left since. g.met.D.Disk.only_now c.args.disk.now left since))

pub returns-in_err-is_new-clause-begun : goal.returns-in_err-is_new-clause-begun
returns-in_err-is_new-clause-begun g c = λ obeys parts. begun g.D.Disk c.args.disk.now (IsPartOf sectors_head)
    (λ left since. parts left (g.met.D.Disk.only_now c.args.disk.now left since))

pub returns-then-not-is_new-clause-which : goal.returns-then-not-is_new-clause-which
returns-then-not-is_new-clause-which g c = λ obeys. (
  λ is. absurd (cc),
  λ part. absurd (c.in_ok-is_new.ensures.other obeys c.if-not-is_new.true
      (subst (λ h. IsPartOf h (g.D.Disk.seen c.args.disk.now)) (sym c.sectors_head-head.ensures) part)),
)

pub returns-then-not-is_new-clause-others_moment : goal.returns-then-not-is_new-clause-others_moment
returns-then-not-is_new-clause-others_moment g c = λ obeys. inr (begun g.D.Disk c.args.disk.now
    (g.D.Disk.may_leave c.args.disk.now) (λ left since. g.met.D.Disk.only_now c.args.disk.now left since))

pub returns-then-not-is_new-clause-begun : goal.returns-then-not-is_new-clause-begun
returns-then-not-is_new-clause-begun g c = λ obeys parts. begun g.D.Disk c.args.disk.now (IsPartOf sectors_head)
    (λ left since. parts left (g.met.D.Disk.only_now c.args.disk.now left since))

-- ---- the write was refused

pub returns-in_err-write_durably-clause-others : goal.returns-in_err-write_durably-clause-others
returns-in_err-write_durably-clause-others g c = λ obeys.
    inl (part-of g (goal.at.returns-in_err-write_durably-clause-others g c).After-write_durably obeys)

pub returns-in_err-write_durably-clause-others_moment : goal.returns-in_err-write_durably-clause-others_moment
returns-in_err-write_durably-clause-others_moment g c = λ obeys.
    inl (part-of g (goal.at.returns-in_err-write_durably-clause-others_moment g c).After-write_durably obeys)

pub returns-in_err-write_durably-clause-older : goal.returns-in_err-write_durably-clause-older
returns-in_err-write_durably-clause-older g c = λ obeys leaves log.
    absurd (older-other leaves (g.D.Disk.seen c.args.disk.now) log
    (part-of g (goal.at.returns-in_err-write_durably-clause-older g c).After-write_durably obeys))

pub returns-in_err-write_durably-clause-left : goal.returns-in_err-write_durably-clause-left
returns-in_err-write_durably-clause-left g c = λ obeys part.
    part-seen g (goal.at.returns-in_err-write_durably-clause-left g c).After-write_durably obeys

pub returns-in_err-write_durably-clause-begun : goal.returns-in_err-write_durably-clause-begun
returns-in_err-write_durably-clause-begun g c = λ obeys parts.
    parts-left g (goal.at.returns-in_err-write_durably-clause-begun g c).After-write_durably obeys parts

-- ---- both sectors are there

pub returns-clause-which : goal.returns-clause-which
returns-clause-which g c = λ obeys.
    (λ is. part-of g (goal.at.returns-clause-which g c).After-write_durably obeys, λ part. refl)

pub returns-clause-others : goal.returns-clause-others
returns-clause-others g c = λ obeys. inl (part-of g (goal.at.returns-clause-others g c).After-write_durably obeys)

pub returns-clause-others_moment : goal.returns-clause-others_moment
returns-clause-others_moment g c = λ obeys.
    inl (part-of g (goal.at.returns-clause-others_moment g c).After-write_durably obeys)

pub returns-clause-older : goal.returns-clause-older
returns-clause-older g c = λ obeys leaves log. absurd (older-other leaves (g.D.Disk.seen c.args.disk.now) log
    (part-of g (goal.at.returns-clause-older g c).After-write_durably obeys))

pub returns-clause-made : goal.returns-clause-made
returns-clause-made g c = λ obeys is.
    c.in_ok-write_durably.ensures.written obeys (omega arith)
    ∙ ap (written (g.D.Disk.seen c.args.disk.now) 0) c.sectors_head-head.ensures
    ∙ part-over sectors_head (g.D.Disk.seen c.args.disk.now)
    (part-of g (goal.at.returns-clause-made g c).After-write_durably obeys)

pub returns-clause-lies : goal.returns-clause-lies
returns-clause-lies g c = λ obeys is.
    subst (λ f. layout_in f ≡ Apart) (sym (returns-clause-made g c obeys is)) sectors-lie

pub returns-clause-settled : goal.returns-clause-settled
returns-clause-settled g c = λ obeys is.
    subst (λ f. IsSettled [] (laid Apart f)) (sym (returns-clause-made g c obeys is)) sectors-settled

pub returns-clause-new_durable : goal.returns-clause-new_durable
returns-clause-new_durable g c = λ obeys parts is left now.
    let from = c.in_ok-write_durably.ensures.durable obeys (omega arith) left now in
    from.2 ∙ ap (written from.0 0) c.sectors_head-head.ensures
    ∙ part-over sectors_head from.0 (parts from.0 from.1)

pub returns-clause-left : goal.returns-clause-left
returns-clause-left g c = λ obeys part. part-seen g (goal.at.returns-clause-left g c).After-write_durably obeys

pub returns-clause-begun : goal.returns-clause-begun
returns-clause-begun g c = λ obeys parts.
    parts-left g (goal.at.returns-clause-begun g c).After-write_durably obeys parts
