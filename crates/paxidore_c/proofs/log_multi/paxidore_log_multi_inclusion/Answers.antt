use Rattle.std.proofs.Common.{◌≡◌, [], ◌++◌, length, take, drop, true, arith, ap, sym, ◌∙◌, w32}
use Rattle.std.proofs.Math.Seq.{take-append_seam}
use Rattle.std.proofs.lemmas.Int.{to_z-of_z}
use Rattle.merkle_log.specs.Multi.{are_multi_indexes}
use Rattle.paxidore_calls.proofs.KeptLogs.{bytes-given, hands-given}
use Rattle.paxidore_c.proofs.MultiLog.{all-rising, memory-hands}
use Rattle.paxidore_c.proofs.log_multi.paxidore_log_multi_inclusion.Goals as goal

pub returns-clause-proof : goal.returns-clause-proof
returns-clause-proof c = λ leaves le keeps.
    let fits = to_z-of_z w32 c.hand_over_digests.result (record { sfits = c.hand_over_digests.type_inv }) in
    let rising : are_multi_indexes c.size.result c.args.indexes.now ≡ true
    = sym c.are_multi_indexes.ensures ∙ c.if-not-are_multi_indexes.false in
    let same = c.size.ensures.size ∙ ap (λ kept. kept.size) c.in-Some.ensures.1 in
    let new = c.write_multi_proof.new.proof in
    let items = c.in-Ok.digests.items in
    let long : c.in-Ok.digests.len ≡ length new = omega (arith, c.in-Ok.digests.ok.0, c.write_multi_proof.auto.proof) in
    let whole : take c.in-Ok.digests.len (new ++ drop (length new) items) ≡ new
    = ap (λ n. take n (new ++ drop (length new) items)) long ∙ take-append_seam new (drop (length new) items) in
    hands-given (all-rising c.args.size c.args.indexes.now c.args.kept.now _ c.in-Some.ensures.0 (rw same at rising)
    ∙ bytes-given _ _ ((rw (c.in-Some.ensures.1) at c.write_multi_proof.ensures) leaves le keeps))
    fits (rw (c.deref.ensures.value, whole) at c.hand_over_digests.ensures.handed)

pub returns-clause-given : goal.returns-clause-given
returns-clause-given c =
    let fits = to_z-of_z w32 c.hand_over_digests.result (record { sfits = c.hand_over_digests.type_inv }) in
    let rising : are_multi_indexes c.size.result c.args.indexes.now ≡ true
    = sym c.are_multi_indexes.ensures ∙ c.if-not-are_multi_indexes.false in
    let same = c.size.ensures.size ∙ ap (λ kept. kept.size) c.in-Some.ensures.1 in (
      _,
      hands-given (all-rising c.args.size c.args.indexes.now c.args.kept.now _ c.in-Some.ensures.0
          (rw same at rising)) fits c.hand_over_digests.ensures.handed,
    )

pub returns-in_default-vec-clause-given : goal.returns-in_default-vec-clause-given
returns-in_default-vec-clause-given c = (
  [],
  memory-hands _ c.args.proof.now c.args.proof_len.now c.code-in_default-vec.result
      c.code-in_default-vec.ensures,
)
