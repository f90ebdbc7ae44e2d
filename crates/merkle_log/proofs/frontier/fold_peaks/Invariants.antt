use Rattle.std.proofs.Common.{◌+◌, ◌≤◌, ℕ, List, length, map, Ok}
use Rattle.ark_paths.specs.Pair.{Digest}
use Rattle.merkle_log.specs.Frontier.{IsFrontier}
use Rattle.merkle_log.specs.Log.{merkle_tree_hash}
use Rattle.merkle_log.proofs.Merging.{Folding}
use Rattle.merkle_log.proofs.frontier.fold_peaks.Given as goal

abbrev pub invariant-left : goal.invariant-left
invariant-left g l =
    let hash = (g.T.TreeHasher.hashes l.hasher).pair.upper in
    let numbers = g.D.Numbered.numbers in
    let peaks = map numbers l.peaks in
    record {
      within : l.left + 1 ≤ length l.peaks;
      at : (empty : Digest) (digests : List Digest) (size : ℕ) → IsFrontier hash digests size peaks → Folding hash peaks
          l.left (Ok (numbers l.last)) (merkle_tree_hash hash empty digests);
    }

abbrev pub decreases-left : goal.decreases-left
decreases-left g l = l.left
