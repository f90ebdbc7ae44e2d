use Rattle.std.proofs.Common.{◌≡◌, ◌+◌, ◌<◌, ◌≤◌, ℕ, length, Ok}
use Rattle.ark_trees.specs.Rfc6962.{node_of}
use Rattle.merkle_log.specs.Stored.{row_at, row_pairs}
use Rattle.merkle_log.proofs.kept.Kept.is_sound.Given as goal

abbrev pub invariant-levels : goal.invariant-levels
invariant-levels l =
    let rows = row_at l.self in
    record {
      count : l.count ≡ length (rows l.level);
      fits : l.level + l.count ≤ l.self.size;
      hashed : (level : ℕ) → level < l.level → row_pairs node_of (rows level) ≡ Ok (rows (level + 1));
    }

abbrev pub decreases-levels : goal.decreases-levels
decreases-levels l = l.count
