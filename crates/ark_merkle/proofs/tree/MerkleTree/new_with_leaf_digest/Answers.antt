use Rattle.std.proofs.Common.{◌≡◌, ◌∙◌, Ok, ap, subst}
use Rattle.ark_base.specs.Laws.Steps.{done_injective}
use Rattle.ark_base.proofs.Refusals.{passed_on}
use Rattle.ark_paths.specs.Pair.{HashPair, Hashes, pair_of}
use Rattle.ark_paths.specs.Rows.{IsTree, digests_of}
use Rattle.ark_paths.specs.Tree.{tree_with}
use Rattle.ark_paths.proofs.TreeLemmas.{pair_of-same}
use Rattle.ark_merkle.proofs.TreeReads.{same_hashes, made-refused, made-ok, made-tree}
use Rattle.ark_merkle.proofs.tree.MerkleTree.new_with_leaf_digest.Goals.{In_ok-pair_parameters}
use Rattle.ark_merkle.proofs.tree.MerkleTree.new_with_leaf_digest.Goals as goal

-- the copy of the pair hash's parameters makes the same pairs
pairs : (g : _) (c : In_ok-pair_parameters g) →
    let pair = pair_of g.P.LeafInnerDigestConverter.DigestConverter.conversion
    g.P.TwoToOneHash.TwoToOneCRHScheme.evaluated g.P.TwoToOneHash.TwoToOneCRHScheme.compressed in
    pair c.args.pair_parameters.now ≡ pair c.in_ok-pair_parameters.pair_parameters
pairs g c =
    let two = g.P.TwoToOneHash.TwoToOneCRHScheme in
    let laws = g.met.P.TwoToOneHash.TwoToOneCRHScheme in
    let given = c.args.pair_parameters.now in
    let copy = c.in_ok-pair_parameters.pair_parameters in
    let alike = done_injective _ _ c.in_ok-pair_parameters.ensures in
    pair_of-same g.P.LeafInnerDigestConverter.DigestConverter.conversion two.evaluated two.compressed given copy
    (laws.evaluated_same given copy alike) (laws.compressed_same given copy alike)

pub returns-in_err-rows : goal.returns-in_err-rows
returns-in_err-rows g c = passed_on _ _ c.from_residual.result _ c.from_residual.ensures.1
    (rw c.deref.ensures.value at c.in_err-rows.ensures)
    (made-refused c.new-hasher.ensures _ c.args.leaves.items c.requires c.in_err-rows.field-0.0)

pub invariant_of-result : goal.invariant_of-result
invariant_of-result g c =
    let made = made-tree c.new-hasher.ensures _ c.args.leaves.items c.requires c.in_ok-rows.rows
    (rw c.deref.ensures.value at c.in_ok-rows.ensures) in
    subst (λ (h : HashPair). IsTree h (digests_of g.P.LeafDigest.Numbered.numbers c.args.leaves) c.in_ok-rows.rows)
    (pairs g c) (rw g.met.P.Views.hashes_are at made)

pub returns : goal.returns
returns g c =
    let leaves = digests_of g.P.LeafDigest.Numbered.numbers c.args.leaves in
    let made = made-ok c.new-hasher.ensures _ c.args.leaves.items c.requires c.in_ok-rows.rows
    (rw c.deref.ensures.value at c.in_ok-rows.ensures) in
    let hash = g.met.P.LeafHash.CRHScheme.same_parameters _ _ (done_injective _ _ c.in_ok-leaf_parameters.ensures) in
    rw (g.met.P.Views.tree_is, g.met.P.Views.hashes_are) (rw g.met.P.Views.hashes_are at made
    ∙ ap (λ (h : Hashes _). Ok (tree_with h leaves)) (same_hashes hash (pairs g c)))
