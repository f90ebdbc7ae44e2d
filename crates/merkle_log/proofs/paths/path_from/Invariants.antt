use Rattle.std.proofs.Common.{◌≡◌, ◌+◌, ◌≤◌, ◌<◌, ◌^◌, ℕ, length, map, take}
use Rattle.ark_paths.specs.Pair.{Digest}
use Rattle.merkle_log.specs.Asked.{Holding, IsBeside, IsPeak, own_count}
use Rattle.merkle_log.specs.Edge.{last_seen, HasLast, path_with, beside_left}
use Rattle.merkle_log.specs.Stored.{row_at, IsStored}
use Rattle.merkle_log.proofs.Backs.{Tallying}
use Rattle.merkle_log.proofs.Going.{Going}
use Rattle.merkle_log.proofs.Lengths.{Counts}
use Rattle.merkle_log.proofs.paths.path_from.Given as goal

abbrev pub invariant-levels : goal.invariant-levels
invariant-levels g l =
    let hash = g.H.NodeHasher.hash l.initial.hasher in
    let counted = g.H.NodeHasher.counted l.initial.hasher in
    let numbers = g.D.Numbered.numbers in
    let rows = row_at (g.R.Rows.stored l.rows) in
    let last = last_seen numbers (rows l.level) l.last_index l.last in
    let first = last_seen numbers (rows l.fn.level) l.fn.last_index l.fn.last in
    record {
      count : l.level + l.last_index ≤ l.fn.level + l.fn.last_index;
      inside : l.index ≤ l.last_index;
      within : l.last_index ≤ length (rows l.level);
      has : l.index < l.last_index → HasLast (rows l.level) l.last_index l.last;
      peaks : l.index < l.last_index
          → Holding (g.R.Rows.Holds l.rows) l.level (IsPeak (own_count l.last_index l.last));
      beside : Holding (g.R.Rows.Holds l.rows) l.level (IsBeside l.index (own_count l.last_index l.last));
      going : IsStored hash rows → (empty : Digest) (k : ℕ) → l.fn.last_index < 2 ^ k → Going hash rows empty l.level
          l.index l.last_index last (map numbers (take l.at l.path))
          (path_with hash empty k (rows l.fn.level) l.fn.index l.fn.last_index first
          (map numbers (take l.fn.at l.fn.path)));
      room : Counts l.index l.last_index l.at (length l.path);
      same : g.H.NodeHasher.hash l.hasher ≡ hash;
      low : g.H.NodeHasher.counted l.hasher ≤ l.level;
      tally : (k : ℕ) → l.fn.last_index < 2 ^ k → Tallying (g.H.NodeHasher.counted l.hasher) l.index l.last_index l.last
          (counted + beside_left k l.fn.index l.fn.last_index l.fn.last);
    }

abbrev pub decreases-levels : goal.decreases-levels
decreases-levels g l = l.last_index
