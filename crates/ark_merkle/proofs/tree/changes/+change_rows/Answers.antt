use Rattle.std.proofs.Common.{◌≡◌, ◌∙◌, ◌<◌, ◌+◌, [], length, get_or, ap, sym, arith}
use Rattle.std.proofs.lemmas.List.{length-map}
use Rattle.ark_base.proofs.Refusals.{passed_on}
use Rattle.ark_merkle.proofs.ChangedRows.{row-even, size-above, rows-refused, rows-refused_above, rows-changed, changes-above, row-kept, below-kept, last-changed, count_over-few, count_over-hashed}
use Rattle.ark_merkle.proofs.tree.changes.+change_rows.Goals as goal

pub hash_reached-requires-clause-even : goal.hash_reached-requires-clause-even
hash_reached-requires-clause-even g t c =
    let even = row-even _ c.args.rows.now c.args.row c.requires.size c.requires.hashed
    (omega (arith, c.requires.row, c.len.ensures.count, c.if-len-row.false)) in
    omega (arith, length-map c.row.result.now g.D.Numbered.numbers, ap length c.row.ensures)

pub returns-in_err-above-clause-rows : goal.returns-in_err-above-clause-rows
returns-in_err-above-clause-rows g t c =
    passed_on _ _ c.from_residual.result c.in_err-above.field-0.0 c.from_residual.ensures.1 c.in_err-above.ensures
    (λ refused. rows-refused _ c.args.rows.now c.args.row c.requires.size c.requires.hashed
    (omega (arith, c.requires.row, c.len.ensures.count, c.if-len-row.false)) _ c.args.changes.items c.requires.changes
    c.in_err-above.field-0.0 (rw (c.row.ensures, c.deref.ensures.value) at refused))

pub change_rows-requires : goal.change_rows-requires
change_rows-requires g t c =
    let below : c.args.row + 1 < length c.args.rows.now =
    omega (arith, c.requires.row, c.len.ensures.count, c.if-len-row.false) in
    let rise = changes-above _ c.args.rows.now c.args.row c.requires.size c.requires.hashed below _ c.args.changes.items
    c.requires.changes c.in_ok-above.above.items
    (rw (c.row.ensures, c.deref.ensures.value) at c.in_ok-above.ensures) in
    let size = size-above _ c.args.rows.now c.args.row c.requires.size c.requires.hashed below in
    λ κs within. (
      omega (arith, c.decreases, below),
      (within.0, (within.1.0, (within.1.1.0, (within.1.1.1, (below, (size, (c.requires.hashed, rise))))))),
    )

pub returns-in_err-more-clause-rows : goal.returns-in_err-more-clause-rows
returns-in_err-more-clause-rows g t c =
    passed_on _ _ c.from_residual-in_err-more.result c.in_err-more.field-0.0 c.from_residual-in_err-more.ensures.1
    c.in_err-more.ensures.rows
    (rows-refused_above _ c.args.rows.now c.args.row c.requires.size c.requires.hashed
    (omega (arith, c.requires.row, c.len.ensures.count, c.if-len-row.false)) _ c.args.changes.items c.requires.changes _
    (rw (c.row.ensures, c.deref.ensures.value) at c.in_ok-above.ensures) c.in_err-more.field-0.0)

pub overflow_add-result : goal.overflow_add-result
overflow_add-result g t c =
    let under : c.args.row + 1 < length c.args.rows.now =
    omega (arith, c.requires.row, c.len.ensures.count, c.if-len-row.false) in
    let few = count_over-few _ c.args.rows.now c.args.row c.requires.size c.requires.hashed under g.D.Numbered.numbers
    c.args.changes.items c.requires.changes (omega (arith, c.len.ensures.most, c.len.ensures.count)) in
    let counted = count_over-hashed _ c.args.rows.now c.args.row c.requires.size c.requires.hashed under
    g.D.Numbered.numbers c.args.changes.items c.requires.changes c.in_ok-above.above.items
    (rw (c.row.ensures, c.deref.ensures.value) at c.in_ok-above.ensures) in
    omega (arith, c.len-hashed.ensures, c.in_ok-above.above.ok.0, c.in_ok-more.ensures.count)

pub returns-clause-rows : goal.returns-clause-rows
returns-clause-rows g t c = rw c.put_in_row-2.ensures
    (rows-changed _ c.args.rows.now c.args.row c.requires.size c.requires.hashed
    (omega (arith, c.requires.row, c.len.ensures.count, c.if-len-row.false)) _ c.args.changes.items c.requires.changes _
    (rw (c.row.ensures, c.deref.ensures.value) at c.in_ok-above.ensures) c.change_rows.new.rows
    c.in_ok-more.ensures.length c.in_ok-more.ensures.below c.in_ok-more.ensures.rows)

pub returns-clause-count : goal.returns-clause-count
returns-clause-count g t c =
    let counted = count_over-hashed _ c.args.rows.now c.args.row c.requires.size c.requires.hashed
    (omega (arith, c.requires.row, c.len.ensures.count, c.if-len-row.false)) g.D.Numbered.numbers
    c.args.changes.items c.requires.changes c.in_ok-above.above.items
    (rw (c.row.ensures, c.deref.ensures.value) at c.in_ok-above.ensures) in
    omega (arith, c.len-hashed.ensures, c.in_ok-above.above.ok.0, c.in_ok-more.ensures.count)

pub hash_reached-requires-clause-changes : goal.hash_reached-requires-clause-changes
hash_reached-requires-clause-changes g t c =
    let long : length c.row.result.now ≡ length (get_or c.args.rows.now c.args.row []) =
    sym (length-map c.row.result.now g.D.Numbered.numbers) ∙ ap length c.row.ensures in
    rw (long, c.deref.ensures.value) c.requires.changes

pub returns-clause-below : goal.returns-clause-below
returns-clause-below g t c = rw c.put_in_row-2.ensures (below-kept c.args.rows.now c.change_rows.new.rows c.args.row _
    c.in_ok-more.ensures.below)

pub returns-then-len-row-clause-rows : goal.returns-then-len-row-clause-rows
returns-then-len-row-clause-rows g t c =
    rw c.put_in_row.ensures (last-changed (g.T.TreeHasher.hashes c.args.hasher.now).pair.upper c.args.rows.now
    c.args.row _ (omega (arith, c.len.ensures.count, c.if-len-row.true)))

pub put_in_row-requires-2-clause-changes : goal.put_in_row-requires-2-clause-changes
put_in_row-requires-2-clause-changes g t c =
    rw (row-kept c.args.rows.now c.change_rows.new.rows c.args.row c.in_ok-more.ensures.below) c.requires.changes
