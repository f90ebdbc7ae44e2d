use Rattle.std.proofs.Common.{ℕ, ◌+◌, ◌≡◌, ◌≤◌, ◌*◌, length, true, false, ap, ◌∙◌, subst, inl, inr, arith}
use Rattle.std.proofs.lemmas.Bool.{cases_lt}
use Rattle.merkle_log.proofs.Positions.{count-rises}
use Rattle.log_store.specs.Sound.{AreNodes}
use Rattle.log_store.specs.declared.log.Log.{Log}
use Rattle.log_store.specs.declared.stop.Stop.TheVariants.{Fault}
use Rattle.log_store.proofs.Refusals.{damaged-none}
use Rattle.log_store.proofs.Sounding.{keeps-hashed, said-same, sizes-equal, sizes-other, sound-file}
use Rattle.log_store.proofs.sound.check.Goals as goal

pub returns-in-Err-Fault-Damaged-clause-damaged : goal.returns-in-Err-Fault-Damaged-clause-damaged
returns-in-Err-Fault-Damaged-clause-damaged g c = λ obeys told leaves log.
    damaged-none Log (g.D.Disk.seen c.args.disk.now) c.in-Err-Fault-Damaged.field-0
    (c.in-Err-Fault-Damaged.field-0-is ∙ ap Fault c.in-Err-Fault-Damaged.field-0-0-is)
    (c.in-Err-Fault-Damaged.ensures.refused obeys) leaves log

pub returns-in-Ok-sound_front-clause-sound : goal.returns-in-Ok-sound_front-clause-sound
returns-in-Ok-sound_front-clause-sound g c = λ obeys told.
    let seen = g.D.Disk.seen c.args.disk.now in
    let size = c.in-Ok.log.size in
    let inside : 96 + 32 * c.stored_count.result ≤ length seen =
    omega (arith, c.in-Ok.ensures.inside obeys, c.stored_count.ensures) in
    let same = sizes-equal c.in-Ok-sound_front.size size (said-same _ true told) in
    sound-file seen size c.in-Ok.log.root c.in-Ok.log.is_second_free (c.in-Ok.ensures.size obeys)
    (subst (AreNodes seen) same (c.in-Ok-sound_front.ensures.sound obeys inside)) (c.in-Ok.ensures.states obeys)
    (c.in-Ok.ensures.root obeys)

pub returns-in-Ok-sound_front-clause-damaged : goal.returns-in-Ok-sound_front-clause-damaged
returns-in-Ok-sound_front-clause-damaged g c = λ obeys told leaves log.
    let seen = g.D.Disk.seen c.args.disk.now in
    let size = c.in-Ok.log.size in
    let found = c.in-Ok-sound_front.size in
    let inside : 96 + 32 * c.stored_count.result ≤ length seen =
    omega (arith, c.in-Ok.ensures.inside obeys, c.stored_count.ensures) in
    let count = (c.in-Ok.ensures.log obeys leaves log).0 in
    let other = sizes-other found size (said-same _ false told) in
    let below : found + 1 ≤ size = below_of found size c.in-Ok-sound_front.ensures.limit other in
    c.in-Ok-sound_front.ensures.longest obeys inside (omega (arith, below))
    (omega (arith, count-rises (found + 1) size below, c.stored_count.ensures))
    (keeps-hashed leaves seen (found + 1) log.keeps (omega (arith, below, count)))
  where
    below_of : (a b : ℕ) → a ≤ b → (a ≡ b → ⊥) → a + 1 ≤ b
    below_of a b le other = elim (cases_lt a b) [
      | inl less ↦ omega (arith, less)
      | inr ge ↦ absurd (other (omega (arith, le, ge)))
    ]
