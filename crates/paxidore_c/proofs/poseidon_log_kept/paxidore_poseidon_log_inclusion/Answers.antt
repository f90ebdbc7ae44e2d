use Rattle.std.proofs.Common.{take, w32}
use Rattle.std.proofs.lemmas.Int.{to_z-of_z}
use Rattle.paxidore_c.specs.PoseidonLog.{kept_path_given, path_of_elements}
use Rattle.paxidore_calls.proofs.Written.{gives-itself, seen}
use Rattle.paxidore_c.proofs.poseidon_log_kept.paxidore_poseidon_log_inclusion.Goals as goal

pub returns-clause-path : goal.returns-clause-path
returns-clause-path c = λ inputs parameters spells leaves le keeps.
    let fits = to_z-of_z w32 c.hand_over.result (record { sfits = c.hand_over.type_inv }) in
    rw fits (c.hand_over.ensures (kept_path_given inputs c.args.size c.args.index c.args.kept.now
    (path_of_elements parameters c.args.index (take c.args.size leaves)))
    (c.kept_path_of.ensures.path inputs parameters spells leaves le keeps))

pub returns-clause-given : goal.returns-clause-given
returns-clause-given c = λ inputs parameters spells.
    let fits = to_z-of_z w32 c.hand_over.result (record { sfits = c.hand_over.type_inv }) in
    let any = c.kept_path_of.ensures.given inputs parameters spells in (
      any.0,
      any.1,
      rw fits (c.hand_over.ensures (kept_path_given inputs c.args.size c.args.index c.args.kept.now any.0) any.2),
    )

pub returns-clause-kept : goal.returns-clause-kept
returns-clause-kept c =
    let hands = c.hand_over.ensures (seen (λ bytes. bytes.items) c.kept_path_of.result)
    (gives-itself (λ bytes. bytes.items) c.kept_path_of.result) in
    let fits = to_z-of_z w32 c.hand_over.result (record { sfits = c.hand_over.type_inv }) in
    rw fits hands.kept
