use Rattle.std.proofs.Common.{arith}
use Rattle.ark_base.proofs.Refusals.{passed_on}
use Rattle.ark_merkle.proofs.ChangedTrees.{lowest-size, rows-hashed, leaves-refused, leaves-refused_above, leaves-changed, tree-changed, lowest-changes, count_over-leaves, count_over-below}
use Rattle.ark_merkle.proofs.tree.batch.change_leaves.Goals as goal

pub returns-in_err-above-clause-leaves : goal.returns-in_err-above-clause-leaves
returns-in_err-above-clause-leaves g c =
    passed_on _ _ c.from_residual.result _ c.from_residual.ensures.1 c.in_err-above.ensures
    (λ refused. leaves-refused _ _ _ _ c.requires.tree c.args.changes.items c.requires.changes
    c.in_err-above.field-0.0 (rw c.deref.ensures.value at refused))

pub change_rows-requires-clause-size : goal.change_rows-requires-clause-size
change_rows-requires-clause-size g c = lowest-size _ _ _ _ c.requires.tree

pub change_rows-requires-clause-hashed : goal.change_rows-requires-clause-hashed
change_rows-requires-clause-hashed g c = rows-hashed _ _ _ _ c.requires.tree

pub change_rows-requires-clause-changes : goal.change_rows-requires-clause-changes
change_rows-requires-clause-changes g c =
    lowest-changes _ _ _ _ c.requires.tree c.args.changes.items c.requires.changes _ c.in_ok-above.above.items
    (rw c.deref.ensures.value at c.in_ok-above.ensures)

pub returns-in_err-more-clause-leaves : goal.returns-in_err-more-clause-leaves
returns-in_err-more-clause-leaves g c =
    passed_on _ _ c.from_residual-in_err-more.result _ c.from_residual-in_err-more.ensures.1 c.in_err-more.ensures.rows
    (leaves-refused_above _ _ _ _ c.requires.tree c.args.changes.items c.requires.changes _ _
    (rw c.deref.ensures.value at c.in_ok-above.ensures) c.in_err-more.field-0.0)

pub overflow_add-result : goal.overflow_add-result
overflow_add-result g c =
    let few = count_over-below _ _ _ _ c.requires.tree c.args.changes.items c.requires.changes in
    let counted = count_over-leaves _ _ _ _ c.requires.tree c.args.changes.items c.requires.changes
    g.D.Numbered.numbers c.in_ok-above.above.items (rw c.deref.ensures.value at c.in_ok-above.ensures) in
    omega (arith, c.len-hashed.ensures, c.in_ok-above.above.ok.0, c.in_ok-more.ensures.count)

pub returns-clause-leaves : goal.returns-clause-leaves
returns-clause-leaves g c =
    rw c.put_changes.ensures (leaves-changed _ _ _ _ c.requires.tree c.args.changes.items c.requires.changes _ _
    (rw c.deref.ensures.value at c.in_ok-above.ensures) c.change_rows.new.rows c.in_ok-more.ensures.rows)

pub returns-clause-tree : goal.returns-clause-tree
returns-clause-tree g c =
    rw c.put_changes.ensures (tree-changed _ _ _ _ c.requires.tree c.args.changes.items c.requires.changes _ _
    (rw c.deref.ensures.value at c.in_ok-above.ensures) c.change_rows.new.rows c.in_ok-more.ensures.rows)

pub returns-clause-count : goal.returns-clause-count
returns-clause-count g c =
    let hashed = rw c.deref.ensures.value at c.in_ok-above.ensures in
    let counted = count_over-leaves _ _ _ _ c.requires.tree c.args.changes.items c.requires.changes
    g.D.Numbered.numbers c.in_ok-above.above.items hashed in
    omega (arith, c.len-hashed.ensures, c.in_ok-above.above.ok.0, c.in_ok-more.ensures.count)

pub hash_reached_leaves-requires-clause-changes : goal.hash_reached_leaves-requires-clause-changes
hash_reached_leaves-requires-clause-changes g c = rw c.deref.ensures.value c.requires.changes

pub returns-in_err-above-clause-tree : goal.returns-in_err-above-clause-tree
returns-in_err-above-clause-tree g c = c.requires.tree

pub returns-in_err-more-clause-tree : goal.returns-in_err-more-clause-tree
returns-in_err-more-clause-tree g c = rw c.in_err-more.ensures.refused c.requires.tree
