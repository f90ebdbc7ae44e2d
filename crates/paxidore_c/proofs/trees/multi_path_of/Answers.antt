use Rattle.std.proofs.Common.{◌≡◌, ◌∙◌, length, true, sym, refl}
use Rattle.paxidore_calls.specs.Hashing.{hashing_by}
use Rattle.paxidore_calls.proofs.TreeLemmas.{multi-made, written-multi}
use Rattle.paxidore_calls.specs.Answer.{are_indexes}
use Rattle.paxidore_c.proofs.trees.multi_path_of.Goals as goal

pub returns : goal.returns
returns g c =
    let proof = c.in_ok-proof.proof in
    let inside : are_indexes (length c.in_ok-tree.tree.leaves) c.args.indexes.now ≡ true =
    rw (← c.size.ensures.size) (sym c.are_indexes.ensures.test ∙ c.if-not-are_indexes.false) in
    multi-made (hashing_by g.H.ArrayHash.leaf_hash g.H.ArrayHash.node_hash) _ refl c.args.leaves.now
    c.args.lengths.now c.args.indexes.now c.in_ok-tree.tree.leaves c.in_ok-tree.ensures inside _
    c.in_ok-proof.ensures.proof
    c.in_ok-canonical_bytes.field-0.items
    (c.in_ok-canonical_bytes.ensures.spelled.1 ∙ written-multi proof.leaf_siblings_hashes.items
    proof.auth_paths_prefix_lenghts.items proof.auth_paths_suffixes.items proof.leaf_indexes.items)
