use Rattle.std.proofs.Common.{[], length, inr, refl}
use Rattle.std.proofs.lemmas.Bool.{le-ltb, lt-ltb}
use Rattle.circom.specs.Hash.{node_outcome}
use Rattle.circom.specs.Nodes.{refusal_error}
use Rattle.merkle_log.specs.Edge.{all_of}
use Rattle.merkle_log.specs.Log.{inclusion_path}
use Rattle.paxidore_c.specs.PoseidonLog.{elements_given}
use Rattle.paxidore_calls.specs.declared.refused.Refused.TheVariants.{Index}
use Rattle.paxidore_c.proofs.TwoInputs.{bytes-given, digests-refused, refused-first, refused-next, table-refused, two-gives, two-refused}
use Rattle.paxidore_c.proofs.poseidon_log.path_of.Goals as goal

pub returns-in-Err : goal.returns-in-Err
returns-in-Err c = λ inputs parameters spells.
    table-refused inputs _ c.in-Err.refused (c.in-Err.ensures.read inputs parameters spells)

pub returns-in-Err-are_given : goal.returns-in-Err-are_given
returns-in-Err-are_given c = λ inputs parameters spells.
    let table = c.in-Ok.ensures.read inputs parameters spells in
    two-refused inputs _ c.in-Err-are_given.refused table.0 (refused-first (elements_given c.args.elements.now) _
    c.in-Err-are_given.refused c.in-Err-are_given.ensures.given)

pub returns-then-index-elements : goal.returns-then-index-elements
returns-then-index-elements c = λ inputs parameters spells.
    let table = c.in-Ok.ensures.read inputs parameters spells in
    two-refused inputs _ Index table.0 (refused-next (elements_given c.args.elements.now) _ c.args.elements.now Index
    c.in-Ok-are_given.ensures.given
    (inr (rw (le-ltb c.args.index (length c.args.elements.now) c.if-index-elements.true) refl)))

pub returns-in-Err-path_of_elements : goal.returns-in-Err-path_of_elements
returns-in-Err-path_of_elements c = λ inputs parameters spells.
    let table = c.in-Ok.ensures.read inputs parameters spells in
    let outcome = all_of (inclusion_path (node_outcome parameters) [] c.args.index c.args.elements.now) in
    two-refused inputs _ c.from.result table.0 (refused-next (elements_given c.args.elements.now) _ c.args.elements.now
    c.from.result c.in-Ok-are_given.ensures.given
    (rw (lt-ltb c.args.index (length c.args.elements.now) c.if-index-elements.false) (digests-refused outcome
    (refusal_error c.in-Err-path_of_elements.refusal) c.from.result
    (c.in-Err-path_of_elements.ensures.path parameters table.1 c.in-Ok-are_given.ensures.all []) c.from.ensures)))

pub returns : goal.returns
returns c = λ inputs parameters spells.
    let table = c.in-Ok.ensures.read inputs parameters spells in
    let elements = c.args.elements.now in
    let outcome = all_of (inclusion_path (node_outcome parameters) [] c.args.index elements) in
    two-gives (λ bytes. bytes.items) inputs _ c.bytes_of_path.result table.0
    (rw (c.in-Ok-are_given.ensures.given, lt-ltb c.args.index (length elements) c.if-index-elements.false)
    (bytes-given outcome c.in-Ok-path_of_elements.path.items
    (c.in-Ok-path_of_elements.ensures.path parameters table.1 c.in-Ok-are_given.ensures.all []) (λ bytes. bytes.items)
    c.bytes_of_path.result (rw (c.deref.ensures.value) at c.bytes_of_path.ensures)))
