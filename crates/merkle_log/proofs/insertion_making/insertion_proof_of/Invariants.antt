use Rattle.std.proofs.Common.{◌≡◌, ◌+◌, ◌≤◌, length, map, drop}
use Rattle.std.specs.Prelude.{count_ones}
use Rattle.merkle_log.specs.Log.{NodeHash}
use Rattle.merkle_log.specs.Stored.{row_at, IsStored}
use Rattle.merkle_log.specs.Walk.{index_up}
use Rattle.merkle_log.proofs.InsertionMaking.{Peaking}
use Rattle.merkle_log.proofs.insertion_making.insertion_proof_of.Given as goal

abbrev pub invariant-levels : goal.invariant-levels
invariant-levels g l =
    let rows = row_at (g.R.Rows.stored l.rows) in
    record {
      at : l.at ≡ count_ones l.left;
      long : length l.proof ≡ count_ones l.fn.size;
      within : l.at ≤ length l.proof;
      up : index_up l.level l.fn.size ≡ l.left;
      inside : l.left ≤ length (rows l.level);
      fits : l.level + l.left ≤ l.fn.size;
      peaks : (hash : NodeHash) → IsStored hash rows → Peaking hash rows l.fn.size l.level l.left
          (drop l.at (map g.D.Numbered.numbers l.proof));
    }

abbrev pub decreases-levels : goal.decreases-levels
decreases-levels g l = l.left
