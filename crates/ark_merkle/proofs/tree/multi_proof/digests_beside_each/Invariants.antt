use Rattle.std.proofs.Common.{◌≡◌, ◌-◌, [], map, take, length}
use Rattle.ark_paths.specs.Sharing.{prefixes_of, suffixes_of}
use Rattle.ark_paths.specs.Rows.{beside_in, rows_seen}
use Rattle.ark_merkle.proofs.tree.multi_proof.digests_beside_each.Given as goal

abbrev pub invariant-loop-place : goal.invariant-loop-place
invariant-loop-place g l =
    let lists = map (beside_in l.rows (length l.rows - 1)) (take l.place l.indexes) in
    record {
      prefixes : l.prefixes.items ≡ prefixes_of [] lists;
      suffixes : rows_seen g.D.Numbered.numbers l.suffixes ≡ suffixes_of [] lists;
    }
