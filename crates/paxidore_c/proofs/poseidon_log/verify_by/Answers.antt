use Rattle.std.proofs.Common.{◌≡◌, refl, subst, ◌∙◌, arith}
use Rattle.std.proofs.lemmas.Bool.{lt-ltb}
use Rattle.ark_base.specs.Outcome.{Answers}
use Rattle.circom.specs.Hash.{node_outcome}
use Rattle.circom.specs.Nodes.{element_hashes}
use Rattle.circom.proofs.Outcomes.{table-node}
use Rattle.merkle_log.specs.Log.{NodeHash}
use Rattle.merkle_log.specs.Received.{ShowsLogLeaf, inclusion_length, received_inclusion}
use Rattle.paxidore_calls.specs.Answer.{refusing}
use Rattle.paxidore_calls.specs.LogProofs.{proof_digests}
use Rattle.paxidore_c.specs.PoseidonLog.{element_verdict}
use Rattle.paxidore_calls.proofs.Answering.{zero-says}
use Rattle.paxidore_c.proofs.Codes.{answers-give, verdict-fits}
use Rattle.paxidore_c.proofs.poseidon_log.verify_by.Goals as goal

pub returns-clause-answer : goal.returns-clause-answer
returns-clause-answer c = λ parameters of.
    let same = c.new-nodes.ensures.hash ∙ table-node of in
    let path = proof_digests (inclusion_length c.args.size c.args.index) c.args.path.now in
    let outcome = received_inclusion (element_hashes (node_outcome parameters)) c.args.root.now c.args.size c.args.index
    c.args.element.now path in
    let known : element_verdict parameters c.args.root.now c.args.size c.args.index c.args.element.now c.args.path.now
    ≡ refusing outcome = rw (
      lt-ltb 0 c.args.size (omega (arith, c.if-index-size.false)),
      lt-ltb c.args.index c.args.size c.if-index-size.false,
    ) refl in
    rw (known, c.verdict_code.ensures, verdict-fits (refusing c.verify_inclusion_bytes.result))
    (answers-give outcome c.verify_inclusion_bytes.result
    (subst (λ (hash : NodeHash). Answers (received_inclusion (element_hashes hash) c.args.root.now c.args.size
    c.args.index c.args.element.now path) c.verify_inclusion_bytes.result) same
    c.verify_inclusion_bytes.ensures.answer))

pub returns-clause-shows : goal.returns-clause-shows
returns-clause-shows c = λ parameters of zero.
    let same = c.new-nodes.ensures.hash ∙ table-node of in
    subst (λ (hash : NodeHash). ShowsLogLeaf (element_hashes hash) c.args.root.now c.args.size c.args.index
    c.args.element.now (proof_digests (inclusion_length c.args.size c.args.index) c.args.path.now)) same
    (zero-says c.verify_inclusion_bytes.result c.verify_inclusion_bytes.ensures.bound c.verdict_code.result
    c.verdict_code.ensures zero)
