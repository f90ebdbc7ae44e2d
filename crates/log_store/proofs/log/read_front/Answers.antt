use Rattle.std.proofs.Common.{◌≤◌, [], length, inl, inr, ap, sym, ◌∙◌, arith}
use Rattle.std.specs.Prelude.{unwrap_or}
use Rattle.std.proofs.lemmas.List.{take_all}
use Rattle.std.proofs.lemmas.Result.{err_from_is_err_and}
use Rattle.sha2.specs.Sha256.{sha256}
use Rattle.ark_trees.specs.Rfc6962.{node_of}
use Rattle.merkle_log.specs.Log.{merkle_tree_hash}
use Rattle.merkle_log.proofs.Positions.{count-rises}
use Rattle.log_store.specs.declared.log.Front.{Front}
use Rattle.log_store.specs.declared.log.Log.{Log}
use Rattle.log_store.proofs.Refusals.{refused-first}
use Rattle.log_file.specs.LogFile.{slot_to_take}
use Rattle.log_store.proofs.log.read_front.Goals as goal

pub returns-in_err-log-clause-refused : goal.returns-in_err-log-clause-refused
returns-in_err-log-clause-refused g c = λ obeys.
    let e = err_from_is_err_and c.from_residual.result c.from_residual.ensures.1 in
    rw (e.1, e.2) (refused-first Log Front (g.D.Disk.seen c.args.disk.now) c.args.named _
    (c.in_err-log.ensures.refused obeys))

pub returns-in-Err-clause-refused : goal.returns-in-Err-clause-refused
returns-in-Err-clause-refused g c = λ obeys. inr (inl (c.in-Err.ensures.refused (g.D.Disk.seen c.args.disk.now)
    (c.in_ok-log.ensures.size obeys)))

pub returns-then-size-log-clause-root : goal.returns-then-size-log-clause-root
returns-then-size-log-clause-root g c = λ obeys leaves log.
    let known = c.in_ok-log.ensures.log obeys leaves log in
    let size = c.in-Ok.size in (
      c.in-Ok.ensures.size.0 ∙ ap (unwrap_or c.args.named) (sym known.0),
      omega (arith, known.0, c.in-Ok.ensures.size.1),
      ap (merkle_tree_hash node_of (sha256 [])) (take_all size leaves (omega (arith, known.0, c.if-size-log.true)))
          ∙ known.1,
    )

pub returns-then-size-log-clause-size : goal.returns-then-size-log-clause-size
returns-then-size-log-clause-size g c = λ obeys.
    c.in-Ok.ensures.refused (g.D.Disk.seen c.args.disk.now) (c.in_ok-log.ensures.size obeys)

pub returns-then-size-log-clause-states : goal.returns-then-size-log-clause-states
returns-then-size-log-clause-states g c = λ obeys is.
    let seen = g.D.Disk.seen c.args.disk.now in (
      c.in_ok-log.log.is_second_free,
      ap (λ n. slot_to_take seen n c.in_ok-log.log.root) c.if-size-log.true ∙ c.in_ok-log.ensures.states obeys,
    )

pub returns-then-size-log-clause-peaks : goal.returns-then-size-log-clause-peaks
returns-then-size-log-clause-peaks g c = λ obeys. rw (c.if-size-log.true) (c.in_ok-log.ensures.peaks obeys)

pub read_peaks-requires-clause-inside : goal.read_peaks-requires-clause-inside
read_peaks-requires-clause-inside g c = omega (
  arith,
  count-rises c.in-Ok.size c.in_ok-log.log.size (omega (arith, c.in-Ok.ensures.size.1)),
  c.in_ok-log.ensures.near,
)

pub returns-clause-inside : goal.returns-clause-inside
returns-clause-inside g c = λ obeys. omega (
  arith,
  count-rises c.in-Ok.size c.in_ok-log.log.size (omega (arith, c.in-Ok.ensures.size.1)),
  c.in_ok-log.ensures.inside obeys,
)

pub returns-clause-root : goal.returns-clause-root
returns-clause-root g c = λ obeys leaves log.
    let known = c.in_ok-log.ensures.log obeys leaves log in
    let size = c.in-Ok.size in
    let le : size ≤ length leaves = omega (arith, known.0, c.in-Ok.ensures.size.1) in (
      c.in-Ok.ensures.size.0 ∙ ap (unwrap_or c.args.named) (sym known.0),
      le,
      c.root_with-root.ensures leaves le log.keeps
          (c.in-Ok-read_peaks.ensures obeys (returns-clause-inside g c obeys)),
    )

pub returns-clause-size : goal.returns-clause-size
returns-clause-size g c = λ obeys.
    c.in-Ok.ensures.refused (g.D.Disk.seen c.args.disk.now) (c.in_ok-log.ensures.size obeys)

pub returns-clause-near : goal.returns-clause-near
returns-clause-near g c = omega (
  arith,
  count-rises c.in-Ok.size c.in_ok-log.log.size (omega (arith, c.in-Ok.ensures.size.1)),
  c.in_ok-log.ensures.near,
)

pub returns-clause-peaks : goal.returns-clause-peaks
returns-clause-peaks g c = λ obeys.
    c.in-Ok-read_peaks.ensures obeys (returns-clause-inside g c obeys)
