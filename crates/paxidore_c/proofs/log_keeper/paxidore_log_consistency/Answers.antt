use Rattle.std.proofs.Common.{◌≡◌, ◌≤◌, length, arith, sym, ap, ◌∙◌, w32, rules}
use Rattle.std.proofs.lemmas.Grind.{common_steps}
use Rattle.std.proofs.lemmas.Int.{to_z-of_z}
use Rattle.merkle_log.specs.Received.{consistency_length}
use Rattle.paxidore_calls.proofs.KeptLogs.{all-older, consistency-fits, hands-given}
use Rattle.paxidore_c.proofs.log_keeper.paxidore_log_consistency.Goals as goal

pub slice_bounds-digests-end : goal.slice_bounds-digests-end
slice_bounds-digests-end c = consistency-fits c.args.old_size c.args.size (length c.args.kept.now)
    c.consistency_length-length.result c.in-Some.ensures.0 (omega arith) c.if-size-old_size.false
    c.consistency_length-length.ensures

pub slice_bounds-hand_over_consistency-end : goal.slice_bounds-hand_over_consistency-end
slice_bounds-hand_over_consistency-end c =
    let most : c.consistency_length-length.result ≤ 64 =
    consistency-fits c.args.old_size c.args.size (length c.args.kept.now)
    c.consistency_length-length.result c.in-Some.ensures.0 (omega arith) c.if-size-old_size.false
    c.consistency_length-length.ensures in
    search rules

pub hand_over_consistency-requires-clause-room : goal.hand_over_consistency-requires-clause-room
hand_over_consistency-requires-clause-room c =
    let most : c.consistency_length-length.result ≤ 64 =
    consistency-fits c.args.old_size c.args.size (length c.args.kept.now)
    c.consistency_length-length.result c.in-Some.ensures.0 (omega arith) c.if-size-old_size.false
    c.consistency_length-length.ensures in
    let long : c.consistency_length-length.result
    ≡ consistency_length c.args.old_size c.in-Some.kept.size =
    c.consistency_length-length.ensures
    ∙ ap (λ n. consistency_length c.args.old_size n) (sym (ap (λ kept. kept.size) c.in-Some.ensures.1)) in
    grind (arith, common_steps)

pub returns-clause-proof : goal.returns-clause-proof
returns-clause-proof c = λ leaves le keeps.
    let fits = to_z-of_z w32 c.hand_over_consistency.result (record { sfits = c.hand_over_consistency.type_inv }) in
    hands-given (all-older c.args.old_size c.args.size c.args.kept.now _ c.in-Some.ensures.0 (omega arith)
    c.if-size-old_size.false)
    fits ((rw (c.in-Some.ensures.1) at c.hand_over_consistency.ensures.proof) leaves le keeps)

pub returns-clause-given : goal.returns-clause-given
returns-clause-given c =
    let given = c.hand_over_consistency.ensures.given in
    let fits = to_z-of_z w32 c.hand_over_consistency.result (record { sfits = c.hand_over_consistency.type_inv }) in (
      given.0,
      hands-given (all-older c.args.old_size c.args.size c.args.kept.now _ c.in-Some.ensures.0 (omega arith)
          c.if-size-old_size.false) fits given.1,
    )
