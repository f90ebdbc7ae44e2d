use Rattle.std.proofs.Common.{◌≡◌, ◌+◌, ◌%◌, ◌≤◌, ◌^◌, ℕ, List, length, drop}
use Rattle.std.specs.Prelude.{count_ones}
use Rattle.ark_paths.specs.Pair.{Digest}
use Rattle.merkle_log.specs.Frontier.{IsFrontier, IsJoinedUpTo}
use Rattle.merkle_log.proofs.frontier.Frontier.join_each.Given as goal

abbrev pub invariant-trees : goal.invariant-trees
invariant-trees g l =
    let hash = (g.T.TreeHasher.hashes l.fn.self.hasher).pair.upper in
    let waits = drop l.place l.other.peaks in
    record {
      hasher : l.self.hasher ≡ l.fn.self.hasher;
      empty : l.self.empty ≡ l.fn.self.empty;
      size : l.self.size + l.left ≡ l.fn.self.size + l.other.size;
      ones : length waits ≡ count_ones l.left;
      aligned : (level : ℕ) → 2 ^ level ≤ l.left → l.self.size % 2 ^ level ≡ 0;
      joined : (digests more : List Digest) → IsFrontier hash digests l.fn.self.size l.fn.self.peaks
          → IsFrontier hash more l.other.size l.other.peaks
          → IsJoinedUpTo hash digests more (l.self.size, l.self.peaks) (l.left, waits);
    }
