use Rattle.std.proofs.Common.{suc, ◌≡◌, ◌+◌, ◌≤◌, ◌++◌, ◌∷◌, [], List, length, map, Ok}
use Rattle.std.specs.Prelude.{count_ones}
use Rattle.merkle_log.specs.Frontier.{frontier, HasPeaks}
use Rattle.merkle_log.specs.Walk.{joined}
use Rattle.ark_paths.specs.Pair.{Digest}
use Rattle.merkle_log.proofs.Lasts.{Node}
use Rattle.merkle_log.proofs.Merging.{MadeOf, Merging}
use Rattle.merkle_log.proofs.frontier.merge.Given as goal

abbrev pub invariant-odd : goal.invariant-odd
invariant-odd g l =
    let hash = (g.T.TreeHasher.hashes l.hasher).pair.upper in
    let numbers = g.D.Numbered.numbers in
    let peaks = map numbers l.peaks in
    record {
      left : l.left ≡ count_ones l.count;
      within : l.left ≤ length l.peaks;
      made : MadeOf hash l.fn.size peaks (numbers l.fn.digest) l.count l.left (numbers l.last);
      same : count_ones (l.count + 1) ≡ count_ones (l.fn.size + 1);
      at : (empty : Digest) (row : List Node) → length row ≡ l.fn.size → HasPeaks hash row peaks
          → Merging hash empty peaks
          l.count l.left (numbers l.last)
          (frontier (joined hash) (Ok empty) (suc l.fn.size) (row ++ (Ok (numbers l.fn.digest) ∷ [])));
    }

abbrev pub decreases-odd : goal.decreases-odd
decreases-odd g l = l.count
