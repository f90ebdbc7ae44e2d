use Rattle.std.proofs.Common.{w32}
use Rattle.std.proofs.lemmas.Int.{to_z-of_z}
use Rattle.paxidore_c.proofs.Hashed.{handed-codes, handed-none, said-of-seen}
use Rattle.paxidore_calls.proofs.Written.{gives-itself, handed, seen}
use Rattle.paxidore_c.specs.Poseidon.{IsCircomTable}
use Rattle.paxidore_calls.specs.declared.refused.Refused.TheVariants.{Other}
use Rattle.circom.specs.Hash.{IsCircomRefused}
use Rattle.paxidore_c.proofs.poseidon.paxidore_poseidon_table.Goals as goal

pub returns-clause-handed : goal.returns-clause-handed
returns-clause-handed c =
    let hands = c.hand_over.ensures (seen (λ bytes. bytes.items) c.table_for.result)
    (gives-itself (λ bytes. bytes.items) c.table_for.result) in
    let fits = to_z-of_z w32 c.hand_over.result (record { sfits = c.hand_over.type_inv }) in (
      seen (λ bytes. bytes.items) c.table_for.result,
      said-of-seen (λ bytes. bytes.items) (IsCircomTable c.args.inputs) c.table_for.result c.table_for.ensures.made,
      rw fits hands,
    )

pub returns-clause-ready : goal.returns-clause-ready
returns-clause-ready c =
    let hands = c.hand_over.ensures (seen (λ bytes. bytes.items) c.table_for.result)
    (gives-itself (λ bytes. bytes.items) c.table_for.result) in
    let fits = to_z-of_z w32 c.hand_over.result (record { sfits = c.hand_over.type_inv }) in
    rw fits (handed (λ bytes. bytes.items) (IsCircomTable c.args.inputs) c.table_for.result _ _ _ _ c.hand_over.result
    c.table_for.ensures.made hands)

pub returns-clause-none : goal.returns-clause-none
returns-clause-none c = λ outside.
    let hands = c.hand_over.ensures (seen (λ bytes. bytes.items) c.table_for.result)
    (gives-itself (λ bytes. bytes.items) c.table_for.result) in
    let fits = to_z-of_z w32 c.hand_over.result (record { sfits = c.hand_over.type_inv }) in
    rw fits (handed-none (λ bytes. bytes.items) c.table_for.result _ _ _ _ _ c.hand_over.result
    (c.table_for.ensures.none outside) hands)

pub returns-clause-kept : goal.returns-clause-kept
returns-clause-kept c =
    let hands = c.hand_over.ensures (seen (λ bytes. bytes.items) c.table_for.result)
    (gives-itself (λ bytes. bytes.items) c.table_for.result) in
    let fits = to_z-of_z w32 c.hand_over.result (record { sfits = c.hand_over.type_inv }) in
    rw fits hands.kept

pub returns-clause-codes : goal.returns-clause-codes
returns-clause-codes c = λ some few.
    let hands = c.hand_over.ensures (seen (λ bytes. bytes.items) c.table_for.result)
    (gives-itself (λ bytes. bytes.items) c.table_for.result) in
    let fits = to_z-of_z w32 c.hand_over.result (record { sfits = c.hand_over.type_inv }) in
    rw fits (handed-codes (λ bytes. bytes.items) (IsCircomRefused c.args.inputs) Other c.table_for.result
    _ _ _ _ c.hand_over.result (c.table_for.ensures.refused some few) hands)
