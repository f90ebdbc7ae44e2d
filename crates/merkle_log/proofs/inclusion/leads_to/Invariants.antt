use Rattle.std.proofs.Common.{ℕ, ◌<◌, ◌≤◌, ◌^◌, length, map, drop}
use Rattle.merkle_log.specs.Walk.{walk, on_left, on_right}
use Rattle.merkle_log.proofs.Along.{Along}
use Rattle.merkle_log.proofs.inclusion.leads_to.Given as goal

abbrev pub invariant-levels : goal.invariant-levels
invariant-levels g l =
    let hash = (g.T.TreeHasher.hashes l.hasher).pair.upper in
    let numbers = g.D.Numbered.numbers in
    record {
      used : l.used ≤ length l.path;
      along : (k : ℕ) → l.initial.last < 2 ^ k → Along (on_left hash) (on_right hash) l.index l.last (numbers l.own)
          (map numbers (drop l.used l.path))
          (walk (on_left hash) (on_right hash) k l.initial.index l.initial.last (numbers l.initial.own)
          (map numbers l.path));
    }

abbrev pub decreases-levels : goal.decreases-levels
decreases-levels g l = l.last
