use Rattle.std.proofs.Common.{◌≡◌, ◌≤◌, length, arith, sym, ap, ◌∙◌, w32, rules}
use Rattle.std.proofs.lemmas.Grind.{common_steps}
use Rattle.std.proofs.lemmas.Int.{to_z-of_z}
use Rattle.merkle_log.specs.Received.{inclusion_length}
use Rattle.paxidore_calls.proofs.KeptLogs.{all-inside, hands-given, inclusion-fits}
use Rattle.paxidore_c.proofs.log_keeper.paxidore_log_inclusion.Goals as goal

pub slice_bounds-digests-end : goal.slice_bounds-digests-end
slice_bounds-digests-end c =
    inclusion-fits c.args.size c.args.index (length c.args.kept.now) c.inclusion_length-length.result
    c.in-Some.ensures.0 c.if-index-size.false c.inclusion_length-length.ensures

pub slice_bounds-hand_over_inclusion-end : goal.slice_bounds-hand_over_inclusion-end
slice_bounds-hand_over_inclusion-end c =
    let most : c.inclusion_length-length.result ≤ 64 =
    inclusion-fits c.args.size c.args.index (length c.args.kept.now) c.inclusion_length-length.result
    c.in-Some.ensures.0 c.if-index-size.false c.inclusion_length-length.ensures in
    search rules

pub hand_over_inclusion-requires-clause-room : goal.hand_over_inclusion-requires-clause-room
hand_over_inclusion-requires-clause-room c =
    let most : c.inclusion_length-length.result ≤ 64 =
    inclusion-fits c.args.size c.args.index (length c.args.kept.now) c.inclusion_length-length.result
    c.in-Some.ensures.0 c.if-index-size.false c.inclusion_length-length.ensures in
    let long : c.inclusion_length-length.result
    ≡ inclusion_length c.in-Some.kept.size c.args.index =
    c.inclusion_length-length.ensures
    ∙ ap (λ n. inclusion_length n c.args.index) (sym (ap (λ kept. kept.size) c.in-Some.ensures.1)) in
    grind (arith, common_steps)

pub returns-clause-path : goal.returns-clause-path
returns-clause-path c = λ leaves le keeps.
    let fits = to_z-of_z w32 c.hand_over_inclusion.result (record { sfits = c.hand_over_inclusion.type_inv }) in
    hands-given (all-inside c.args.size c.args.index c.args.kept.now _ c.in-Some.ensures.0 c.if-index-size.false)
    fits ((rw (c.in-Some.ensures.1) at c.hand_over_inclusion.ensures.path) leaves le keeps)

pub returns-clause-given : goal.returns-clause-given
returns-clause-given c =
    let given = c.hand_over_inclusion.ensures.given in
    let fits = to_z-of_z w32 c.hand_over_inclusion.result (record { sfits = c.hand_over_inclusion.type_inv }) in (
      given.0,
      hands-given (all-inside c.args.size c.args.index c.args.kept.now _ c.in-Some.ensures.0 c.if-index-size.false)
          fits given.1,
    )
