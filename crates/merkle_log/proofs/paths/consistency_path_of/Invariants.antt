use Rattle.std.proofs.Common.{◌≡◌, ◌+◌, ◌-◌, ◌<◌, ◌≤◌, take, length, Ok}
use Rattle.ark_paths.specs.Pair.{Digest}
use Rattle.merkle_log.specs.Asked.{Holding, IsBeside, IsPeak, own_count}
use Rattle.merkle_log.specs.Log.{consistency_path}
use Rattle.merkle_log.specs.Edge.{last_seen, HasLast, all_of, beside_pairs}
use Rattle.merkle_log.specs.Stored.{row_at, IsStored}
use Rattle.merkle_log.proofs.Asking.{Lowering}
use Rattle.merkle_log.proofs.Backs.{Tallying}
use Rattle.merkle_log.proofs.Lengths.{Leads}
use Rattle.merkle_log.proofs.Seeding.{Seeding}
use Rattle.merkle_log.proofs.paths.consistency_path_of.Given as goal

abbrev pub invariant-complete : goal.invariant-complete
invariant-complete g l =
    let hash = g.H.NodeHasher.hash l.initial.hasher in
    let rows = row_at (g.R.Rows.stored l.rows) in
    let last = last_seen g.D.Numbered.numbers (rows l.level) l.last_index l.last in
    record {
      count : l.level + l.last_index ≤ l.size;
      inside : l.index ≤ l.last_index;
      under : l.index < l.last_index;
      within : l.last_index ≤ length (rows l.level);
      has : HasLast (rows l.level) l.last_index l.last;
      peaks : Holding (g.R.Rows.Holds l.rows) l.level (IsPeak (own_count l.last_index l.last));
      beside : Holding (g.R.Rows.Holds l.rows) l.level (IsBeside l.index (own_count l.last_index l.last));
      leads : Leads l.index l.last_index (length l.path);
      lowest : Lowering l.old_size l.level l.index;
      at : IsStored hash rows → (empty : Digest) → Seeding hash rows empty l.level l.index l.last_index (Ok last)
          (all_of (consistency_path hash empty l.old_size (take l.size (rows 0))));
      same : g.H.NodeHasher.hash l.hasher ≡ hash;
      low : g.H.NodeHasher.counted l.hasher ≤ l.level;
      tally : Tallying (g.H.NodeHasher.counted l.hasher) l.index l.last_index l.last
          (beside_pairs (l.old_size - 1) l.size);
    }

abbrev pub decreases-complete : goal.decreases-complete
decreases-complete g l = l.index
