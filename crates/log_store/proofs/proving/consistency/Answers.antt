use Rattle.std.proofs.Common.{ℕ, ◌≤◌, [], List, take, Ok, inl, inr, refl, ap, sym, ◌∙◌, arith}
use Rattle.std.proofs.lemmas.Result.{err_from_is_err_and}
use Rattle.sha2.specs.Sha256.{sha256}
use Rattle.ark_paths.specs.Pair.{Digest}
use Rattle.ark_trees.specs.Rfc6962.{node_of}
use Rattle.merkle_log.specs.Edge.{all_of}
use Rattle.merkle_log.specs.Log.{consistency_path}
use Rattle.merkle_log.proofs.Positions.{count-rises}
use Rattle.log_file.proofs.Saying.{old-above, old-none}
use Rattle.log_file.specs.Faults.{is_older, only_if}
use Rattle.log_file.specs.declared.fault.Fault.TheVariants.{Size}
use Rattle.log_store.proofs.Refusals.{refused-given}
use Rattle.merkle_log.specs.Verdict.{consistency_verdict}
use Rattle.log_store.proofs.Verdicts.{continued, not_both}
use Rattle.log_store.proofs.proving.consistency.Goals as goal

pub returns-in_err-front-clause-refused : goal.returns-in_err-front-clause-refused
returns-in_err-front-clause-refused g c = λ obeys.
    let e = err_from_is_err_and c.from_residual.result c.from_residual.ensures.1 in
    rw (e.1, e.2) (refused-given ℕ (List Digest) (g.D.Disk.seen c.args.disk.now) c.args.named
    (λ size. only_if (is_older c.args.old_size size) Size (Ok size)) _ (c.in_err-front.ensures.refused obeys))

pub returns-then-old_size-eq0-clause-refused : goal.returns-then-old_size-eq0-clause-refused
returns-then-old_size-eq0-clause-refused g c = λ obeys. inr (inl (old-none (g.D.Disk.seen c.args.disk.now) c.args.named
    c.in_ok-front.front.size (c.in_ok-front.ensures.size obeys) c.args.old_size c.if-old_size-eq0.true))

pub returns-then-size-old_size-clause-refused : goal.returns-then-size-old_size-clause-refused
returns-then-size-old_size-clause-refused g c = λ obeys. inr
    (inl (old-above (g.D.Disk.seen c.args.disk.now) c.args.named
    c.in_ok-front.front.size (c.in_ok-front.ensures.size obeys) c.args.old_size c.if-size-old_size.true))

pub root_at-requires-clause-near : goal.root_at-requires-clause-near
root_at-requires-clause-near g c = omega (
  arith,
  count-rises c.args.old_size c.in_ok-front.front.size (omega (arith, c.if-size-old_size.false)),
  c.in_ok-front.ensures.near,
)

pub returns-in-Ok-true-clause-accepted : goal.returns-in-Ok-true-clause-accepted
returns-in-Ok-true-clause-accepted g c =
    ap (consistency_verdict node_of c.args.old_size c.in-Ok-root_at.old_root c.in_ok-front.front.size
    c.in_ok-front.front.root)
    (sym c.deref.ensures.value) ∙ c.in-Ok-true.ensures.verdict ∙ ap Ok c.in-Ok-true.field-0-test

pub returns-in-Ok-true-clause-proof : goal.returns-in-Ok-true-clause-proof
returns-in-Ok-true-clause-proof g c = λ obeys leaves log.
    let first = c.in_ok-front.ensures.root obeys leaves log in
    ap (λ n. all_of (consistency_path node_of (sha256 []) c.args.old_size (take n leaves))) (sym first.0)
    ∙ c.in-Ok.ensures.path obeys (c.in_ok-front.ensures.inside obeys) (c.in_ok-front.ensures.peaks obeys) leaves
    first.1 log.keeps

pub returns-in-Ok-false-clause-refused : goal.returns-in-Ok-false-clause-refused
returns-in-Ok-false-clause-refused g c = λ obeys. inr (inr (
  refl,
  λ leaves log.
      let first = c.in_ok-front.ensures.root obeys leaves log in
      let size = c.in_ok-front.front.size in
      let old_size = c.args.old_size in
      let inside = c.in_ok-front.ensures.inside obeys in
      let root = c.in_ok-front.front.root in
      let older : old_size ≤ size = omega (arith, c.if-size-old_size.false) in
      let old = c.in-Ok-root_at.ensures obeys leaves (omega (arith, older, first.1))
      (omega (arith, inside, count-rises old_size size older)) log.keeps in
      not_both (consistency_verdict node_of old_size c.in-Ok-root_at.old_root size root c.in-Ok.path.items)
      (continued leaves old_size size c.in-Ok.path.items c.in-Ok-root_at.old_root c.in_ok-front.front.root
      (omega (arith, c.if-old_size-eq0.false)) older first.1
      (c.in-Ok.ensures.path obeys inside (c.in_ok-front.ensures.peaks obeys) leaves first.1 log.keeps) old first.2)
      (ap (consistency_verdict node_of old_size c.in-Ok-root_at.old_root size c.in_ok-front.front.root)
      (sym c.deref.ensures.value)
      ∙ c.in-Ok-false.ensures.verdict) c.in-Ok-false.field-0-test,
))

pub returns-in-Ok-true-clause-old_root : goal.returns-in-Ok-true-clause-old_root
returns-in-Ok-true-clause-old_root g c = λ obeys leaves log.
    let first = c.in_ok-front.ensures.root obeys leaves log in
    let size = c.in_ok-front.front.size in
    let older : c.args.old_size ≤ size = omega (arith, c.if-size-old_size.false) in
    c.in-Ok-root_at.ensures obeys leaves (omega (arith, older, first.1))
    (omega (arith, c.in_ok-front.ensures.inside obeys, count-rises c.args.old_size size older)) log.keeps
