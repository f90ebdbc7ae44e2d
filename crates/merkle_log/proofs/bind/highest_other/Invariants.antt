use Rattle.std.proofs.Common.{◌+◌, ◌-◌, ◌≤◌, length, map, drop, take}
use Rattle.ark_paths.specs.Pair.{Digest}
use Rattle.merkle_log.specs.Binding.{IsHighest}
use Rattle.merkle_log.specs.Edge.{last_seen, HasLast}
use Rattle.merkle_log.specs.Stored.{row_at}
use Rattle.merkle_log.proofs.Climbing.{Climbing}
use Rattle.merkle_log.proofs.bind.highest_other.Given as goal

abbrev pub invariant-levels : goal.invariant-levels
invariant-levels g l =
    let hash = (g.T.TreeHasher.hashes l.hasher).pair.upper in
    let numbers = g.D.Numbered.numbers in
    let rows = row_at l.rows in
    let last = last_seen numbers (rows l.level) l.last_index l.last in
    record {
      count : l.level + l.last_index ≤ l.size;
      used : l.used ≤ length l.path;
      has : HasLast (rows l.level) l.last_index l.last;
      root : Digest;
      at : (empty : Digest) → Climbing hash rows empty root l.level l.index l.last_index last (numbers l.own)
          (map numbers (drop l.used l.path)) l.found
          (IsHighest hash empty (take l.size (rows 0)) l.start (l.size - 1) (numbers l.digest) (map numbers l.path));
    }

abbrev pub decreases-levels : goal.decreases-levels
decreases-levels g l = l.last_index
