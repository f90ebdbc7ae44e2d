use Rattle.std.proofs.Common.{◌≡◌, ◌+◌, ◌<◌, ◌++◌, ℕ, List, [], length, get_or}
use Rattle.ark_paths.specs.Pair.{Digest}
use Rattle.merkle_log.specs.Levels.{place_in}
use Rattle.merkle_log.specs.Stored.{stored_count}
use Rattle.merkle_log.proofs.kept.growth.levels.put_leaves.Given as goal

abbrev pub invariant-leaves : goal.invariant-leaves
invariant-leaves l = record {
  same : length l.more ≡ length l.fn.more;
  lies : (kept : List Digest) → length kept ≡ stored_count l.size → (place : ℕ) → place < l.place
      → place_in (kept ++ l.more) 0 (l.size + place) ≡ get_or l.digests place [];
}
