use Rattle.std.proofs.Common.{refl, sym, ◌∙◌}
use Rattle.paxidore_calls.specs.Hashing.{hashing_by}
use Rattle.paxidore_c.proofs.Codes.{all-shown-gives, multi-shows-zero, no-index-gives, none-shown-gives}
use Rattle.paxidore_c.proofs.trees.multi_verify_over.Goals as goal

pub returns-clause-answer : goal.returns-clause-answer
returns-clause-answer g c = all-shown-gives (hashing_by g.H.ArrayHash.leaf_hash g.H.ArrayHash.node_hash)
    (λ leaf. leaf.items) _
    refl c.args.root.now c.args.size c.args.indexes.now c.args.leaves.now c.args.lengths.now
    c.args.proof.now c.deref.result.now (rw c.deref.ensures.value c.in-Ok.ensures)
    (sym c.are_indexes.ensures.test ∙ c.if-not-are_indexes.false) c.verify_bytes.result
    c.verify_bytes.ensures.answer c.verdict_code.result c.verdict_code.ensures

pub returns-clause-shows : goal.returns-clause-shows
returns-clause-shows g c = multi-shows-zero (hashing_by g.H.ArrayHash.leaf_hash g.H.ArrayHash.node_hash)
    (λ leaf. leaf.items) _
    refl c.args.root.now c.args.size c.args.indexes.now c.args.leaves.now c.args.lengths.now
    c.args.proof.now c.deref.result.now (rw c.deref.ensures.value c.in-Ok.ensures) c.verify_bytes.result
    c.verify_bytes.ensures.bound c.verdict_code.result c.verdict_code.ensures

pub returns-then-not-are_indexes-clause-answer : goal.returns-then-not-are_indexes-clause-answer
returns-then-not-are_indexes-clause-answer g c =
    no-index-gives (hashing_by g.H.ArrayHash.leaf_hash g.H.ArrayHash.node_hash) (λ leaf. leaf.items) _
    refl c.args.root.now c.args.size c.args.indexes.now c.args.leaves.now c.args.lengths.now
    c.args.proof.now c.in-Ok.leaves.items c.in-Ok.ensures (sym c.are_indexes.ensures.test ∙ c.if-not-are_indexes.true)
    c.code-then-not-are_indexes.result c.code-then-not-are_indexes.ensures

pub returns-in-Err-clause-answer : goal.returns-in-Err-clause-answer
returns-in-Err-clause-answer g c = none-shown-gives (hashing_by g.H.ArrayHash.leaf_hash g.H.ArrayHash.node_hash)
    c.args.root.now c.args.size
    c.args.indexes.now c.args.leaves.now c.args.lengths.now c.args.proof.now c.in-Err.refused c.in-Err.ensures
    c.code.result c.code.ensures
