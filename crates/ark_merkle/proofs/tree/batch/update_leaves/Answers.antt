use Rattle.std.proofs.Common.{◌∙◌, length, map}
use Rattle.std.proofs.lemmas.List.{length-map}
use Rattle.ark_merkle.specs.Batch.{last_changes}
use Rattle.ark_merkle.proofs.Batches.{AreChanges-unseen, with_leaves-each}
use Rattle.ark_merkle.proofs.Reached.{hashed-rise}
use Rattle.ark_merkle.proofs.LastLeaves.{last-changes, batch-answered, batch-counted, if_ok-again}
use Rattle.ark_merkle.proofs.TreeReads.{log2-leaves, rooted-leaves}
use Rattle.ark_merkle.proofs.tree.batch.update_leaves.Goals as goal

pub change_leaves-requires-clause-changes : goal.change_leaves-requires-clause-changes
change_leaves-requires-clause-changes g c =
    let size = length c.args.leaves.now in
    AreChanges-unseen g.L.Numbered.numbers 0 size c.in_ok-digests.digests.items
    (hashed-rise _ 0 size (last_changes c.args.changes.now) _ (last-changes size c.args.changes.now c.requires.changes)
    c.in_ok-digests.ensures)

pub returns-clause-leaves : goal.returns-clause-leaves
returns-clause-leaves g c =
    batch-answered (g.T.TreeHasher.hashes c.args.hasher.now) (map g.L.Numbered.numbers c.args.leaves.now)
    c.args.changes.now _ c.in_ok-digests.ensures _ c.change_leaves.result c.change_leaves.ensures.leaves

pub returns-clause-count : goal.returns-clause-count
returns-clause-count g c =
    let levels = rw (length-map c.args.leaves.now g.L.Numbered.numbers) at (log2-leaves _ _ _ c.requires.tree) in
    let counted = batch-counted _ g.L.Numbered.numbers (length c.args.rows.now) c.args.changes.now
    c.in_ok-digests.digests.items c.in_ok-digests.ensures in
    if_ok-again _ _ c.change_leaves.result c.change_leaves.ensures.count (λ count is. is ∙ rw levels counted)

pub returns-clause-one_by_one : goal.returns-clause-one_by_one
returns-clause-one_by_one g c made =
    with_leaves-each _ c.args.changes.now made (rooted-leaves _ _ _ c.requires.tree)

pub returns-in_err-digests-clause-one_by_one : goal.returns-in_err-digests-clause-one_by_one
returns-in_err-digests-clause-one_by_one g c made =
    with_leaves-each _ c.args.changes.now made (rooted-leaves _ _ _ c.requires.tree)
