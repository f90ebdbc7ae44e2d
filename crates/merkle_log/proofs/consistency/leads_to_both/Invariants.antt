use Rattle.std.proofs.Common.{ℕ, ◌<◌, ◌≤◌, ◌^◌, length, map, drop}
use Rattle.ark_paths.specs.Pair.{Digest}
use Rattle.merkle_log.specs.Verdict.{both_seen}
use Rattle.merkle_log.specs.Walk.{from_shared, both_left, new_right}
use Rattle.merkle_log.proofs.Along.{Along}
use Rattle.merkle_log.proofs.consistency.leads_to_both.Given as goal

abbrev pub invariant-levels : goal.invariant-levels
invariant-levels g l =
    let hash = (g.T.TreeHasher.hashes l.hasher).pair.upper in
    let numbers = g.D.Numbered.numbers in
    record {
      used : l.used ≤ length l.path;
      along : (k : ℕ) → l.initial.last < 2 ^ k → Along {S = Digest × Digest} (both_left hash) (new_right hash) l.index
          l.last (both_seen numbers l.ends) (map numbers (drop l.used l.path))
          (from_shared hash k l.initial.index l.initial.last (numbers l.shared) (map numbers l.path));
    }

abbrev pub decreases-levels : goal.decreases-levels
decreases-levels g l = l.last
