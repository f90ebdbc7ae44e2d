use Rattle.std.proofs.Common.{◌≡◌, ◌∙◌, ap}
use Rattle.std.specs.Vec.{with_items}
use Rattle.std.proofs.lemmas.List.{length-map, with_items_is}
use Rattle.ark_paths.specs.Pair.{Hashes}
use Rattle.ark_paths.specs.Rows.{digests_of}
use Rattle.ark_merkle.proofs.LastLeaves.{batch-of, each-of, on_err-again}
use Rattle.ark_merkle.proofs.tree.MerkleTree.update_many_counting.Goals.{After-update_leaves}
use Rattle.ark_merkle.proofs.tree.MerkleTree.update_many_counting.Goals as goal

-- the leaf digests that are written back
items : (g : _) (c : After-update_leaves g)
    → (with_items c.self.inside.leaves c.update_leaves.new.leaves).items ≡ c.update_leaves.new.leaves
items g c = with_items_is c.self.inside.leaves c.update_leaves.new.leaves
    (c.update_leaves.auto.leaves ∙ c.deref_mut.ensures.len)

pub update_leaves-requires-clause-changes : goal.update_leaves-requires-clause-changes
update_leaves-requires-clause-changes g c =
    rw c.deref_mut.ensures.value (rw (← c.self.view_is, length-map) at c.requires)

pub update_leaves-requires-clause-tree : goal.update_leaves-requires-clause-tree
update_leaves-requires-clause-tree g c =
    let pairs = ap (λ (h : Hashes _). h.pair) (rw g.met.P.Views.hashes_are at c.new-hasher.ensures) in
    rw (c.deref_mut.ensures.value, pairs) c.self.invariant

pub invariant_of-self : goal.invariant_of-self
invariant_of-self g c =
    rw (items g (goal.at.invariant_of-self g c).After-update_leaves)
    (rw (ap (λ (h : Hashes _). h.pair) c.new-hasher.ensures, g.met.P.Views.hashes_are) at c.update_leaves.ensures.tree)

pub returns : goal.returns
returns g c =
    let hashes = rw g.met.P.Views.hashes_are at c.new-hasher.ensures in
    let written = items g (goal.at.returns g c).After-update_leaves in
    record {
      tree = rw (g.met.P.Views.tree_is, ← c.self.view_is, written)
          (batch-of hashes (digests_of g.P.LeafDigest.Numbered.numbers c.self.inside.leaves) _ c.args.changes.now _
          (rw c.deref_mut.ensures.value at c.update_leaves.ensures.leaves));
      count = rw (← c.self.view_is, length-map) (rw c.deref_mut.ensures.value at c.update_leaves.ensures.count);
      refused = on_err-again _ _ c.update_leaves.result c.update_leaves.ensures.refused
          (λ alike. rw (written, alike, c.deref_mut.ensures.value) c.self.view_is);
      one_by_one = rw (g.met.P.Views.tree_is, ← c.self.view_is)
          (each-of hashes _ c.args.changes.now (rw c.deref_mut.ensures.value at c.update_leaves.ensures.one_by_one));
    }
