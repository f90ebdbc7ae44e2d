use Rattle.std.proofs.Common.{w32}
use Rattle.std.proofs.lemmas.Int.{to_z-of_z}
use Rattle.paxidore_c.specs.PoseidonLog.{elements_path}
use Rattle.paxidore_calls.proofs.Written.{gives-itself, seen}
use Rattle.paxidore_c.proofs.poseidon_log.paxidore_poseidon_path.Goals as goal

pub returns-clause-path : goal.returns-clause-path
returns-clause-path c = λ inputs parameters spells.
    let fits = to_z-of_z w32 c.hand_over.result (record { sfits = c.hand_over.type_inv }) in
    rw fits (c.hand_over.ensures (elements_path inputs parameters c.args.elements.now c.args.index)
    (c.path_of.ensures inputs parameters spells))

pub returns-clause-kept : goal.returns-clause-kept
returns-clause-kept c =
    let hands = c.hand_over.ensures (seen (λ bytes. bytes.items) c.path_of.result)
    (gives-itself (λ bytes. bytes.items) c.path_of.result) in
    let fits = to_z-of_z w32 c.hand_over.result (record { sfits = c.hand_over.type_inv }) in
    rw fits hands.kept
