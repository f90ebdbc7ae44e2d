use Rattle.std.proofs.Common.{◌≡◌, ℕ, List, ◌+◌, ◌*◌, ◌<◌, ◌^◌, length, refl, ap, sym, ◌∙◌, arith}
use Rattle.std.specs.Prelude.{min}
use Rattle.merkle_log.specs.Stored.{stored_count}
use Rattle.ark_paths.specs.Pair.{Digest}
use Rattle.log_file.specs.LogFile.{file_end, stored_in, IsLogFile}
use Rattle.log_store.specs.Disk.{LeavesOnly}
use Rattle.log_store.specs.Store.{IsDurable, IsMidAppend}
use Rattle.log_store.proofs.Growths.{made-of, IsMade}
use Rattle.log_store.proofs.Overlaid.{overlay-long, overlay-peak}
use Rattle.log_store.proofs.Reading.{peak-low}
use Rattle.log_store.proofs.Runs.{begun}
use Rattle.log_store.proofs.Stages.{kept-still, mid-begins}
use Rattle.log_store.proofs.growth.append.Goals.{After-write_all, Start}
use Rattle.log_store.proofs.growth.append.Goals as goal

sum_is : (size more new : ℕ) → new ≡ min (size + more) 18446744073709551615 → new < 2 ^ 63 → new ≡ size + more
sum_is size more new is fits = omega arith

pub bytes_over-requires-clause-whole : goal.bytes_over-requires-clause-whole
bytes_over-requires-clause-whole g c = omega (
  arith,
  overlay-long c.in_ok-log.log.size c.in_ok-log.log.peaks (stored_in c.in_ok-log.log.size
      (g.D.Disk.seen c.args.disk.now)),
)

pub bytes_over-requires-clause-peaks : goal.bytes_over-requires-clause-peaks
bytes_over-requires-clause-peaks g c = λ level place peak.
    let low = peak-low level place c.in_ok-log.log.size c.in_ok-log.ensures.fits peak in (
      low,
      overlay-peak c.in_ok-log.log.size c.in_ok-log.log.peaks (stored_in c.in_ok-log.log.size
          (g.D.Disk.seen c.args.disk.now)) level place low peak,
    )

-- Nothing was written.
still : (g : _) (c : Start g) (leaves : List Digest) → IsLogFile leaves (g.D.Disk.seen c.args.disk.now)
    → IsDurable (length leaves) (g.D.Disk.seen c.args.disk.now) (g.D.Disk.may_leave c.args.disk.now)
    → LeavesOnly g.D.Disk.moment g.D.Disk.left_since c.args.disk.now c.args.disk.now
    (IsMidAppend leaves c.args.digests.now (g.D.Disk.seen c.args.disk.now))
still g c leaves log durable =
    let file = g.D.Disk.seen c.args.disk.now in
    begun g.D.Disk c.args.disk.now (IsMidAppend leaves c.args.digests.now file) (λ left since.
    mid-begins leaves c.args.digests.now file left log (durable left (g.met.D.Disk.only_now c.args.disk.now left
    since)))

pub returns-in_err-log-clause-any_moment : goal.returns-in_err-log-clause-any_moment
returns-in_err-log-clause-any_moment g c = λ obeys leaves log durable. still g
    (goal.at.returns-in_err-log-clause-any_moment g c).Start leaves log durable

pub returns-in_err-log-clause-left : goal.returns-in_err-log-clause-left
returns-in_err-log-clause-left g c = λ obeys leaves log.
    let file = g.D.Disk.seen c.args.disk.now in
    mid-begins leaves c.args.digests.now file file log refl

pub returns-in_err-log-clause-kept : goal.returns-in_err-log-clause-kept
returns-in_err-log-clause-kept g c = λ obeys leaves log durable.
    kept-still leaves c.args.digests.now (g.D.Disk.seen c.args.disk.now) (g.D.Disk.may_leave c.args.disk.now) c.requires
    log durable

pub returns-then-not-is_size-clause-any_moment : goal.returns-then-not-is_size-clause-any_moment
returns-then-not-is_size-clause-any_moment g c = λ obeys leaves log durable. still g
    (goal.at.returns-then-not-is_size-clause-any_moment g c).Start leaves log durable

pub returns-then-not-is_size-clause-left : goal.returns-then-not-is_size-clause-left
returns-then-not-is_size-clause-left g c = λ obeys leaves log.
    let file = g.D.Disk.seen c.args.disk.now in
    mid-begins leaves c.args.digests.now file file log refl

pub returns-then-not-is_size-clause-kept : goal.returns-then-not-is_size-clause-kept
returns-then-not-is_size-clause-kept g c = λ obeys leaves log durable.
    kept-still leaves c.args.digests.now (g.D.Disk.seen c.args.disk.now) (g.D.Disk.may_leave c.args.disk.now) c.requires
    log durable

pub returns-then-not-is_near-clause-any_moment : goal.returns-then-not-is_near-clause-any_moment
returns-then-not-is_near-clause-any_moment g c = λ obeys leaves log durable. still g
    (goal.at.returns-then-not-is_near-clause-any_moment g c).Start leaves log durable

pub returns-then-not-is_near-clause-left : goal.returns-then-not-is_near-clause-left
returns-then-not-is_near-clause-left g c = λ obeys leaves log.
    let file = g.D.Disk.seen c.args.disk.now in
    mid-begins leaves c.args.digests.now file file log refl

pub returns-then-not-is_near-clause-kept : goal.returns-then-not-is_near-clause-kept
returns-then-not-is_near-clause-kept g c = λ obeys leaves log durable.
    kept-still leaves c.args.digests.now (g.D.Disk.seen c.args.disk.now) (g.D.Disk.may_leave c.args.disk.now) c.requires
    log durable

pub returns-in-Err-clause-any_moment : goal.returns-in-Err-clause-any_moment
returns-in-Err-clause-any_moment g c = λ obeys leaves log durable. still g
    (goal.at.returns-in-Err-clause-any_moment g c).Start leaves log durable

pub returns-in-Err-clause-left : goal.returns-in-Err-clause-left
returns-in-Err-clause-left g c = λ obeys leaves log.
    let file = g.D.Disk.seen c.args.disk.now in
    mid-begins leaves c.args.digests.now file file log refl

pub returns-in-Err-clause-kept : goal.returns-in-Err-clause-kept
returns-in-Err-clause-kept g c = λ obeys leaves log durable.
    kept-still leaves c.args.digests.now (g.D.Disk.seen c.args.disk.now) (g.D.Disk.may_leave c.args.disk.now) c.requires
    log durable

-- What is written is the log's growth, and begins where its digests end.
growth : (g : _) (c : After-write_all g) (leaves : List Digest) → g.D.Disk.Obeys c.write_all.new.disk
    → IsLogFile leaves (g.D.Disk.seen c.args.disk.now)
    → IsMade leaves c.args.digests.now (g.D.Disk.seen c.args.disk.now) c.deref.result.now c.saturating_add-size.result
    c.in_ok-log.log.is_second_free × (96 + 32 * c.stored_count.result ≡ file_end (length leaves))
growth g c leaves obeys log =
    let before = c.write_all.ensures.obeys obeys in
    let size = c.in_ok-log.log.size in
    let fits : c.saturating_add-size.result < 2 ^ 63 = omega (arith, c.if-not-is_size.ensures.fits) in
    let known = c.in_ok-log.ensures.log before leaves log in
    let made = made-of log known.0 known.1 (c.in_ok-log.ensures.states before) c.args.digests.now c.in_ok-log.log.peaks
    (c.in_ok-log.ensures.peaks before) c.in-Ok.ensures.bytes
    (sum_is size (length c.args.digests.now) c.saturating_add-size.result c.saturating_add-size.ensures fits) fits
    c.requires in (
      rw (c.deref.ensures.value) made,
      ap (λ n. 96 + 32 * n) (c.stored_count.ensures ∙ ap stored_count (sym known.0)),
    )

pub returns-in-Ok-write_all-clause-acknowledged : goal.returns-in-Ok-write_all-clause-acknowledged
returns-in-Ok-write_all-clause-acknowledged g c = λ obeys leaves log.
    let made = growth g (goal.at.returns-in-Ok-write_all-clause-acknowledged g c).After-write_all leaves obeys log in
    c.in-Ok-write_all.ensures.acknowledged obeys leaves c.args.digests.now made.0.growth made.1 made.0.sum

pub returns-in-Ok-write_all-clause-durable : goal.returns-in-Ok-write_all-clause-durable
returns-in-Ok-write_all-clause-durable g c = λ obeys leaves log durable.
    let made = growth g (goal.at.returns-in-Ok-write_all-clause-durable g c).After-write_all leaves obeys log in
    c.in-Ok-write_all.ensures.durable obeys leaves c.args.digests.now made.0.growth made.1 made.0.sum durable

pub returns-in-Ok-write_all-clause-any_moment : goal.returns-in-Ok-write_all-clause-any_moment
returns-in-Ok-write_all-clause-any_moment g c = λ obeys leaves log durable.
    let made = growth g (goal.at.returns-in-Ok-write_all-clause-any_moment g c).After-write_all leaves obeys log in
    c.write_all.ensures.any_moment obeys leaves c.args.digests.now made.0.growth made.1 made.0.sum durable

pub returns-in-Ok-write_all-clause-left : goal.returns-in-Ok-write_all-clause-left
returns-in-Ok-write_all-clause-left g c = λ obeys leaves log.
    let made = growth g (goal.at.returns-in-Ok-write_all-clause-left g c).After-write_all leaves obeys log in
    c.write_all.ensures.left obeys leaves c.args.digests.now made.0.growth made.1 made.0.sum

pub returns-in-Ok-write_all-clause-kept : goal.returns-in-Ok-write_all-clause-kept
returns-in-Ok-write_all-clause-kept g c = λ obeys leaves log durable.
    let made = growth g (goal.at.returns-in-Ok-write_all-clause-kept g c).After-write_all leaves obeys log in
    c.write_all.ensures.kept obeys leaves c.args.digests.now made.0.growth made.1 made.0.sum durable

pub returns-clause-any_moment : goal.returns-clause-any_moment
returns-clause-any_moment g c = λ obeys leaves log durable.
    let made = growth g (goal.at.returns-clause-any_moment g c).After-write_all leaves obeys log in
    c.write_all.ensures.any_moment obeys leaves c.args.digests.now made.0.growth made.1 made.0.sum durable

pub returns-clause-left : goal.returns-clause-left
returns-clause-left g c = λ obeys leaves log.
    let made = growth g (goal.at.returns-clause-left g c).After-write_all leaves obeys log in
    c.write_all.ensures.left obeys leaves c.args.digests.now made.0.growth made.1 made.0.sum

pub returns-clause-kept : goal.returns-clause-kept
returns-clause-kept g c = λ obeys leaves log durable.
    let made = growth g (goal.at.returns-clause-kept g c).After-write_all leaves obeys log in
    c.write_all.ensures.kept obeys leaves c.args.digests.now made.0.growth made.1 made.0.sum durable
