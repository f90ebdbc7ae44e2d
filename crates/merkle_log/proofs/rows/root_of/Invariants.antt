use Rattle.std.proofs.Common.{◌≡◌, ◌+◌, ◌≤◌, take, Ok}
use Rattle.ark_paths.specs.Pair.{Digest}
use Rattle.merkle_log.specs.Asked.{Holding, IsPeak, own_count}
use Rattle.merkle_log.specs.Log.{merkle_tree_hash}
use Rattle.merkle_log.specs.Edge.{last_seen, HasLast, pairs_left, root_pairs}
use Rattle.merkle_log.specs.Stored.{row_at, IsStored}
use Rattle.merkle_log.proofs.Lasts.{LastAt}
use Rattle.merkle_log.proofs.rows.root_of.Given as goal

abbrev pub invariant-levels : goal.invariant-levels
invariant-levels g l =
    let hash = g.H.NodeHasher.hash l.initial.hasher in
    let rows = row_at (g.R.Rows.stored l.rows) in
    let last = last_seen g.D.Numbered.numbers (rows l.level) l.last_index l.last in
    record {
      count : l.level + l.last_index ≤ l.size;
      has : HasLast (rows l.level) l.last_index l.last;
      held : Holding (g.R.Rows.Holds l.rows) l.level (IsPeak (own_count l.last_index l.last));
      at : IsStored hash rows → (empty : Digest) → LastAt hash rows empty l.level l.last_index (Ok last)
          (merkle_tree_hash hash empty (take l.size (rows 0)));
      same : g.H.NodeHasher.hash l.hasher ≡ hash;
      tally : g.H.NodeHasher.counted l.hasher + pairs_left l.last_index l.last ≡ root_pairs l.size;
    }

abbrev pub decreases-levels : goal.decreases-levels
decreases-levels g l = l.last_index
