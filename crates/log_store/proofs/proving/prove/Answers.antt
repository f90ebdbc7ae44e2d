use Rattle.std.proofs.Common.{ℕ, ◌≡◌, ◌<◌, ◌+◌, ◌*◌, nat_lt, [], List, take, drop, get_or, Ok, inl, inr, refl, ap, sym, ◌∙◌, arith}
use Rattle.std.proofs.lemmas.Result.{err_from_is_err_and}
use Rattle.sha2.specs.Sha256.{sha256}
use Rattle.ark_paths.specs.Pair.{Digest}
use Rattle.ark_trees.specs.Rfc6962.{node_of}
use Rattle.merkle_log.specs.Edge.{all_of}
use Rattle.merkle_log.specs.Log.{inclusion_path}
use Rattle.merkle_log.proofs.Positions.{place-within, position-within}
use Rattle.log_file.proofs.Saying.{index-beyond}
use Rattle.log_file.specs.Faults.{only_if}
use Rattle.log_file.specs.LogFile.{stored_in}
use Rattle.log_file.specs.declared.fault.Fault.TheVariants.{Index}
use Rattle.log_store.specs.Spots.{AreSpotsOf}
use Rattle.log_store.proofs.Reading.{entry-at, spotted-first, spotted-stored}
use Rattle.log_store.proofs.Refusals.{refused-given}
use Rattle.log_store.proofs.Spotted.{spotted-held}
use Rattle.merkle_log.specs.Verdict.{inclusion_verdict}
use Rattle.merkle_log.proofs.Accepted.{inclusion-accepted}
use Rattle.log_store.proofs.Verdicts.{not_both}
use Rattle.log_store.proofs.proving.prove.Goals as goal

pub inclusion_over-requires-clause-peaks : goal.inclusion_over-requires-clause-peaks
inclusion_over-requires-clause-peaks g c = λ level place peak.
    let size = c.in_ok-front.front.size in
    spotted-held size c.deref.result.now (stored_in size (g.D.Disk.seen c.args.disk.now)) level place
    (omega (arith, peak.1)) (rw (c.deref.ensures.value) (c.in_ok-spots.ensures.peaks level place peak))

pub inclusion_over-requires-clause-beside : goal.inclusion_over-requires-clause-beside
inclusion_over-requires-clause-beside g c = λ level place beside.
    let size = c.in_ok-front.front.size in
    spotted-held size c.deref.result.now (stored_in size (g.D.Disk.seen c.args.disk.now)) level place
    beside.1 (rw (c.deref.ensures.value) (c.in_ok-spots.ensures.beside level place beside))

pub returns-in_err-front-clause-refused : goal.returns-in_err-front-clause-refused
returns-in_err-front-clause-refused g c = λ obeys.
    let e = err_from_is_err_and c.from_residual.result c.from_residual.ensures.1 in
    rw (e.1, e.2) (refused-given ℕ (List Digest) (g.D.Disk.seen c.args.disk.now) c.args.named
    (λ size. only_if (nat_lt c.args.index size) Index (Ok size)) _ (c.in_err-front.ensures.refused obeys))

pub returns-then-index-size-clause-refused : goal.returns-then-index-size-clause-refused
returns-then-index-size-clause-refused g c = λ obeys. inr
    (inl (index-beyond (g.D.Disk.seen c.args.disk.now) c.args.named
    c.in_ok-front.front.size (c.in_ok-front.ensures.size obeys) c.args.index c.if-index-size.true))

pub read_digest-requires : goal.read_digest-requires
read_digest-requires g c =
    let size = c.in_ok-front.front.size in
    let within = position-within 0 c.args.index size (place-within 0 c.args.index size
    (omega (arith, c.if-index-size.false))) in
    omega (arith, c.position_of.ensures, c.in_ok-front.ensures.near)

pub returns-in-Ok-true-clause-digest : goal.returns-in-Ok-true-clause-digest
returns-in-Ok-true-clause-digest g c = λ obeys.
    let size = c.in_ok-front.front.size in
    let within = position-within 0 c.args.index size (place-within 0 c.args.index size
    (omega (arith, c.if-index-size.false))) in
    c.in-Ok-read_digest.ensures obeys
    (omega (arith, c.position_of.ensures, within, c.in_ok-front.ensures.inside obeys))
    ∙ ap (λ p. take 32 (drop (96 + 32 * p) (g.D.Disk.seen c.args.disk.now))) c.position_of.ensures

pub returns-in-Ok-true-clause-proof : goal.returns-in-Ok-true-clause-proof
returns-in-Ok-true-clause-proof g c = λ obeys leaves log.
    let file = g.D.Disk.seen c.args.disk.now in
    let size = c.in_ok-front.front.size in
    let first = c.in_ok-front.ensures.root obeys leaves log in
    let own : AreSpotsOf c.deref.result.now (stored_in size file) = rw (c.deref.ensures.value)
    (c.in_ok-spots.ensures.own obeys (c.in_ok-front.ensures.inside obeys) (c.in_ok-front.ensures.peaks obeys)) in
    ap (λ l. all_of (inclusion_path node_of (sha256 []) c.args.index l)) (ap (λ n. take n leaves) (sym first.0)
    ∙ sym (spotted-first {leaves = leaves} file size c.deref.result.now log.keeps first.1 own))
    ∙ c.in-Ok.ensures.path (spotted-stored {leaves = leaves} file size c.deref.result.now log.keeps first.1 own)

pub returns-in-Ok-false-clause-refused : goal.returns-in-Ok-false-clause-refused
returns-in-Ok-false-clause-refused g c = λ obeys. inr (inr (
  refl,
  λ leaves log.
      let file = g.D.Disk.seen c.args.disk.now in
      let size = c.in_ok-front.front.size in
      let index = c.args.index in
      let first = c.in_ok-front.ensures.root obeys leaves log in
      let inside = c.in_ok-front.ensures.inside obeys in
      let below : index < size = omega (arith, c.if-index-size.false) in
      let own : AreSpotsOf c.deref.result.now (stored_in size file) = rw (c.deref.ensures.value)
      (c.in_ok-spots.ensures.own obeys inside (c.in_ok-front.ensures.peaks obeys)) in
      let path : all_of (inclusion_path node_of (sha256 []) index (take size leaves)) ≡ Ok c.in-Ok.path.items =
      ap (λ l. all_of (inclusion_path node_of (sha256 []) index l))
      (sym (spotted-first {leaves = leaves} file size c.deref.result.now log.keeps first.1 own))
      ∙ c.in-Ok.ensures.path (spotted-stored {leaves = leaves} file size c.deref.result.now log.keeps first.1 own) in
      let within = position-within 0 index size (place-within 0 index size below) in
      let digest : c.in-Ok-read_digest.digest ≡ get_or (take size leaves) index [] = c.in-Ok-read_digest.ensures obeys
      (omega (arith, c.position_of.ensures, within, inside))
      ∙ ap (λ p. take 32 (drop (96 + 32 * p) file)) c.position_of.ensures
      ∙ entry-at {leaves = leaves} file size index log.keeps first.1 below in
      let root = c.in_ok-front.front.root in
      not_both (inclusion_verdict node_of root size index c.in-Ok-read_digest.digest c.in-Ok.path.items)
      (ap (λ d. inclusion_verdict node_of root size index d c.in-Ok.path.items) digest
      ∙ inclusion-accepted node_of (sha256 []) leaves size index c.in-Ok.path.items root below first.1 path first.2)
      (ap (inclusion_verdict node_of root size index c.in-Ok-read_digest.digest)
      (sym c.deref-2.ensures.value) ∙ c.in-Ok-false.ensures.verdict) c.in-Ok-false.field-0-test,
))
