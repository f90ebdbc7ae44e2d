use Rattle.std.proofs.Common.{◌≡◌, ◌+◌, length, map}
use Rattle.std.specs.Vec.Iter.{into_iter_items}
use Rattle.ark_paths.specs.Rows.{digests_of}
use Rattle.merkle_log.specs.Stored.{row_at}
use Rattle.merkle_log.proofs.RisenRows.{Rising}
use Rattle.merkle_log.proofs.rising.rows_over.Given as goal

abbrev pub invariant-levels : goal.invariant-levels
invariant-levels g l =
    let numbers = g.D.Numbered.numbers in
    record {
      at : Rising numbers (g.T.TreeHasher.hashes l.hasher).pair.upper (row_at l.stored)
          (digests_of numbers l.fn.leaves) (map into_iter_items l.rows.items) l.row.items;
      count : l.count ≡ length (row_at l.stored (length l.rows.items));
    }

abbrev pub decreases-levels : goal.decreases-levels
decreases-levels g l = l.count + length l.row.items
