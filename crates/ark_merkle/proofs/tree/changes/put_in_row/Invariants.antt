use Rattle.std.proofs.Common.{◌≡◌, [], get_or, set}
use Rattle.ark_merkle.proofs.Batches.{ArePutSoFar}
use Rattle.ark_merkle.proofs.tree.changes.put_in_row.Given as goal

abbrev pub invariant-loop-n : goal.invariant-loop-n
invariant-loop-n g l =
    let row = get_or l.rows l.row [] in
    ArePutSoFar g.D.Numbered.numbers l.initial.changes.items (get_or l.initial.rows l.row []) l.n row l.changes.items
    × (l.rows ≡ set l.initial.rows l.row row)
