use Rattle.std.proofs.Common.{◌≡◌, List, ℕ, map}
use Rattle.std.specs.List.{zip}
use Rattle.ark_merkle.specs.Batch.{puts}
use Rattle.kept_tree.specs.KeptTree.{ChangesLeaves, KeepsTree, kept_leaves}
use Rattle.kept_tree.proofs.LevelByLevel.{changes-both, changes-trees}
use Rattle.paxidore_calls.specs.Hashing.{hashing_by}
use Rattle.paxidore_c.proofs.Putting.{over-parts}
use Rattle.paxidore_calls.specs.Cut.{parts_by}
use Rattle.paxidore_c.proofs.kept_changes.tree_set_many.Goals as goal

pub returns-clause-changes : goal.returns-clause-changes
returns-clause-changes g c = λ done.
    let h = hashing_by g.H.ArrayHash.leaf_hash g.H.ArrayHash.node_hash in
    let old = c.args.tree.now in
    let now = c.put_in_place.new.tree in
    let new = c.rehash_above.new.memory in
    let indexes = c.args.indexes.now in
    let Put : List (List ℕ) → Type 0 = λ xs. kept_leaves now ≡ puts (kept_leaves old) (zip indexes
    (map h.leaf_hash xs)) in
    let Changed : List (List ℕ) → Type 0 = λ xs. ChangesLeaves h.node old new indexes (map h.leaf_hash xs) in
    over-parts (parts_by c.args.leaves.now c.args.lengths.now) Put Changed c.put_in_place.ensures.leaves
    (λ xs put. changes-both h.node old now new indexes (map h.leaf_hash xs) c.put_in_place.auto.tree put
    c.put_in_place.ensures.above c.rehash_above.ensures)

pub returns-clause-tree : goal.returns-clause-tree
returns-clause-tree g c = λ held done holds.
    let h = hashing_by g.H.ArrayHash.leaf_hash g.H.ArrayHash.node_hash in
    let made = c.rehash_above.new.memory in
    let Holds : List (List ℕ) → Type 0 = λ xs. KeepsTree h.node made (puts held (zip c.args.indexes.now
    (map h.leaf_hash xs))) in
    over-parts (parts_by c.args.leaves.now c.args.lengths.now)
    (λ xs. ChangesLeaves h.node c.args.tree.now made c.args.indexes.now (map h.leaf_hash xs)) Holds
    (returns-clause-changes g c done)
    (λ xs changed. changes-trees h.node c.args.tree.now made held c.args.indexes.now (map h.leaf_hash xs) changed holds)
