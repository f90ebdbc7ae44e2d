use Rattle.ark_base.specs.Laws.Steps.{done_injective}
use Rattle.ark_paths.specs.Rows.{digests_of}
use Rattle.ark_paths.proofs.TreeLemmas.{pair_of-same, is_tree-copied}
use Rattle.ark_merkle.proofs.tree.MerkleTreeDuplicate.duplicate.Goals as goal

pub invariant_of-result : goal.invariant_of-result
invariant_of-result g c =
    let two = g.P.TwoToOneHash.TwoToOneCRHScheme in
    let given = c.self.inside.pair_parameters in
    let copy = c.in_ok-duplicate-2.field-0 in
    let seen = g.P.TwoToOneHash.Parameters.Duplicate.seen in
    let laws = g.met.P.TwoToOneHash.TwoToOneCRHScheme in
    let alike = done_injective (seen given) (seen copy) c.in_ok-duplicate-2.ensures in
    let leaves = digests_of g.P.LeafDigest.Numbered.numbers c.self.inside.leaves in
    let copies = digests_of g.P.LeafDigest.Numbered.numbers c.in_ok-copies_of.field-0 in
    is_tree-copied _ _ leaves copies c.self.inside.rows c.in_ok-duplicate-3.field-0
    (pair_of-same g.P.LeafInnerDigestConverter.DigestConverter.conversion two.evaluated two.compressed given copy
    (laws.evaluated_same given copy alike) (laws.compressed_same given copy alike))
    (done_injective leaves copies (rw c.deref.ensures.value at c.in_ok-copies_of.ensures))
    (done_injective c.self.inside.rows c.in_ok-duplicate-3.field-0 c.in_ok-duplicate-3.ensures) c.self.invariant
