use Rattle.std.proofs.Common.{◌+◌, ◌*◌, ◌≤◌, ℕ, List, length, drop, ap, sym, ◌∙◌, subst, arith}
use Rattle.ark_paths.specs.Pair.{Digest}
use Rattle.log_file.specs.LogFile.{written, IsLogFile}
use Rattle.log_store.specs.Disk.{LeavesOnly}
use Rattle.log_store.specs.Sound.{HasStored}
use Rattle.log_store.specs.Store.{IsHeadless, IsNewFile, IsSettled, LeavesJust}
use Rattle.log_store.proofs.Recovering.{blank-new, blank-none, head-behind, log-copied, settled-by}
use Rattle.log_store.proofs.Runs.{begun, then_on, weaker}
use Rattle.log_store.proofs.Sounding.{log-stored}
use Rattle.log_store.proofs.recovery.recover.Goals.{After-write_head}
use Rattle.log_store.proofs.recovery.recover.Goals as goal

pub returns-in-Ok-clause-recovered : goal.returns-in-Ok-clause-recovered
returns-in-Ok-clause-recovered g c = λ obeys old new.
    let see = g.D.Disk.seen in
    let seen = see c.args.disk.now in
    let size = c.in_ok-found.found.size in
    let found = c.in_ok-found.ensures.sound old in
    let inside : 96 + 32 * c.stored_count.result ≤ length seen =
    omega (arith, c.in_ok-found.ensures.inside old, c.stored_count.ensures) in
    let same = c.in_default.ensures.copied (c.write_head.ensures.obeys obeys) old new inside in (
      found.0,
      found.1,
      found.2,
      subst (IsSettled found.0) (sym (c.in-Ok.ensures.written obeys))
          (settled-by found.0 c.in_ok-found.found.root seen (see c.copy_behind.new.new) c.head_bytes.result size
          c.stored_count.result found.1 found.2 c.in_ok-found.ensures.fits found.3 c.head_bytes.ensures
          c.stored_count.ensures same),
    )

pub returns-in-Ok-clause-log : goal.returns-in-Ok-clause-log
returns-in-Ok-clause-log g c = λ obeys old new leaves log.
    let see = g.D.Disk.seen in
    let seen = see c.args.disk.now in
    let size = c.in_ok-found.found.size in
    let found = c.in_ok-found.ensures.log old leaves log in
    let inside : 96 + 32 * c.stored_count.result ≤ length seen =
    omega (arith, c.in_ok-found.ensures.inside old, c.stored_count.ensures) in
    let same = c.in_default.ensures.copied (c.write_head.ensures.obeys obeys) old new inside in
    subst (IsSettled leaves) (sym (c.in-Ok.ensures.written obeys))
    (settled-by leaves c.in_ok-found.found.root seen (see c.copy_behind.new.new) c.head_bytes.result size
    c.stored_count.result (log-stored leaves seen log) (sym found.0) c.in_ok-found.ensures.fits found.1
    c.head_bytes.ensures c.stored_count.ensures same)

-- ---- what a crash leaves

abbrev Copied : List ℕ → List ℕ → Type 0
Copied file left = (leaves : List Digest) → IsLogFile leaves left → HasStored leaves file

pub returns-in_err-found-clause-any_moment : goal.returns-in_err-found-clause-any_moment
returns-in_err-found-clause-any_moment g c = λ obeys old new just.
    begun g.D.Disk c.args.new.now (Copied (g.D.Disk.seen c.args.disk.now)) (λ left since leaves log.
    absurd (blank-none left (blank-new (g.D.Disk.seen c.args.new.now) left new
    (just left (g.met.D.Disk.only_now c.args.new.now left since))) leaves log))

pub returns-in-Err-clause-any_moment : goal.returns-in-Err-clause-any_moment
returns-in-Err-clause-any_moment g c = λ obeys old new just.
    weaker g.D.Disk c.args.new.now c.copy_behind.new.new (Copied (g.D.Disk.seen c.args.disk.now)) IsHeadless
    (c.copy_behind.ensures.any_moment obeys new just)
    (λ left blank leaves log. absurd (blank-none left blank leaves log))

-- once the digests are there
head-torn : (g : _) (c : After-write_head g) → g.D.Disk.Obeys c.write_head.new.disk
    → g.D.Disk.Obeys c.args.disk.now → IsNewFile (g.D.Disk.seen c.args.new.now)
    → LeavesJust (g.D.Disk.seen c.args.new.now) (g.D.Disk.may_leave c.args.new.now)
    → LeavesOnly g.D.Disk.moment g.D.Disk.left_since c.args.new.now c.write_head.new.disk
    (Copied (g.D.Disk.seen c.args.disk.now))
head-torn g c obeys old new just =
    let seen = g.D.Disk.seen c.args.disk.now in
    let early = c.write_head.ensures.obeys obeys in
    let inside : 96 + 32 * c.stored_count.result ≤ length seen =
    omega (arith, c.in_ok-found.ensures.inside old, c.stored_count.ensures) in
    let copy = g.D.Disk.seen c.copy_behind.new.new in
    let same = c.in_default.ensures.copied early old new inside in
    let durable = c.in_default.ensures.durable early old new just inside in
    then_on g.D.Disk c.args.new.now c.copy_behind.new.new c.write_head.new.disk
    (Copied (g.D.Disk.seen c.args.disk.now)) _
    (weaker g.D.Disk c.args.new.now c.copy_behind.new.new (Copied (g.D.Disk.seen c.args.disk.now)) IsHeadless
    (c.copy_behind.ensures.any_moment early new just)
    (λ left blank leaves log. absurd (blank-none left blank leaves log)))
    (c.write_head.ensures.any_moment obeys)
    (λ left torn leaves log. log-copied leaves left seen (32 * c.stored_count.result) log
    (head-behind c.head_bytes.result torn.0 left c.in_ok-found.found.size c.in_ok-found.found.root c.head_bytes.ensures
    torn.2
    ∙ ap (drop 96) (durable torn.0 torn.1) ∙ same) inside)

pub returns-in-Ok-clause-any_moment : goal.returns-in-Ok-clause-any_moment
returns-in-Ok-clause-any_moment g c = λ obeys old new just.
    head-torn g (goal.at.returns-in-Ok-clause-any_moment g c).After-write_head obeys old new just

pub returns-in-Err-write_head-clause-any_moment : goal.returns-in-Err-write_head-clause-any_moment
returns-in-Err-write_head-clause-any_moment g c = λ obeys old new just.
    head-torn g (goal.at.returns-in-Err-write_head-clause-any_moment g c).After-write_head obeys old new just

pub returns-in-Ok-clause-durable : goal.returns-in-Ok-clause-durable
returns-in-Ok-clause-durable g c = λ obeys old new just left now.
    let seen = g.D.Disk.seen c.args.disk.now in
    let early = c.write_head.ensures.obeys obeys in
    let inside : 96 + 32 * c.stored_count.result ≤ length seen =
    omega (arith, c.in_ok-found.ensures.inside old, c.stored_count.ensures) in
    let from = c.in-Ok.ensures.durable obeys left now in
    from.2 ∙ ap (λ f. written f 0 c.head_bytes.result)
    (c.in_default.ensures.durable early old new just inside from.0 from.1)
    ∙ sym (c.in-Ok.ensures.written obeys)
