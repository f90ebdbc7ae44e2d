use Rattle.std.proofs.Common.{◌≡◌, length, map, true, List, arith, ap, sym, subst, ◌∙◌}
use Rattle.std.proofs.lemmas.Iterator.Adapters.{option_map_id}
use Rattle.std.specs.List.{list_all}
use Rattle.std.specs.Option.{option_map}
use Rattle.std.specs.Prelude.{count_ones, Ok}
use Rattle.ark_base.specs.Digits.{itself}
use Rattle.ark_paths.specs.Pair.{Digest}
use Rattle.circom.specs.Hash.{is_element, node_outcome}
use Rattle.circom.proofs.Outcomes.{table-node}
use Rattle.merkle_log.specs.Insertion.{ShowsInsertion}
use Rattle.merkle_log.specs.Log.{NodeHash}
use Rattle.merkle_log.proofs.Making.{map-itself}
use Rattle.paxidore_calls.specs.Answer.{refusing}
use Rattle.paxidore_calls.specs.KeptLog.{takes}
use Rattle.paxidore_calls.specs.LogProofs.{proof_digests}
use Rattle.paxidore_c.proofs.Inserted.{given-by}
use Rattle.paxidore_c.proofs.TwoInputs.{library-refused}
use Rattle.paxidore_c.proofs.poseidon_log_insertion.inserted_by.Goals as goal

pub returns-in-Ok-clause-given : goal.returns-in-Ok-clause-given
returns-in-Ok-clause-given c = λ parameters of.
    let same = c.new-nodes.ensures.hash ∙ table-node of in
    let fits : takes c.args.size (length c.args.elements.now) ≡ true = sym c.can_take.ensures
    ∙ c.if-not-can_take.false in
    let all : list_all is_element c.args.elements.now ≡ true = sym c.are_elements.ensures
    ∙ c.if-not-are_elements.false in
    given-by parameters _ same c.args.root.now c.args.size c.args.elements.now c.args.proof.now (omega
    (arith, c.if-size-eq0.false)) fits all ∙ ap refusing c.in-Ok.ensures.answer ∙ ap Ok (option_map_id c.in-Ok.made)

pub returns-in-Ok-clause-shows : goal.returns-in-Ok-clause-shows
returns-in-Ok-clause-shows c = λ parameters of new some.
    let same = c.new-nodes.ensures.hash ∙ table-node of in
    let read = proof_digests (count_ones c.args.size) c.args.proof.now in
    let P : List Digest → NodeHash → Type 0 = λ l hash. ShowsInsertion hash c.args.root.now c.args.size read l new in
    subst (λ l. P l (node_outcome parameters)) (map-itself c.args.elements.now) (subst (P (map itself
    c.args.elements.now)) same (c.in-Ok.ensures.bound new (ap (option_map itself) some)))

pub returns-in-Err-clause-given : goal.returns-in-Err-clause-given
returns-in-Err-clause-given c = λ parameters of.
    let same = c.new-nodes.ensures.hash ∙ table-node of in
    let fits : takes c.args.size (length c.args.elements.now) ≡ true = sym c.can_take.ensures
    ∙ c.if-not-can_take.false in
    let all : list_all is_element c.args.elements.now ≡ true = sym c.are_elements.ensures
    ∙ c.if-not-are_elements.false in
    rw (given-by parameters _ same c.args.root.now c.args.size c.args.elements.now c.args.proof.now (omega
    (arith, c.if-size-eq0.false)) fits all) (library-refused _ c.in-Err.error c.from.result c.in-Err.ensures.answer
    c.from.ensures)
