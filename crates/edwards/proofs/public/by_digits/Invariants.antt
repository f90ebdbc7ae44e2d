use Rattle.std.proofs.Common.{◌≤◌, ℕ}
use Rattle.ark_groups.specs.Words.{number}
use Rattle.edwards.specs.Curves.{IsComplete}
use Rattle.edwards.specs.Laws.Points.{Point}
use Rattle.edwards.specs.Cached.{AreOddMultiples}
use Rattle.edwards.proofs.Reached.{Reaches}
use Rattle.edwards.proofs.public.by_digits.Given as goal

-- whatever points the tables are of, the digits from the place on were added
abbrev pub invariant-loop-i : goal.invariant-loop-i
invariant-loop-i g l =
    (l.i ≤ 257) × ((d : ℕ) (k : IsComplete (number g.M.WideModulus.P) d) (s t : Point (number g.M.WideModulus.P) d k)
    → AreOddMultiples d k s 8 l.first → AreOddMultiples d k t 8 l.second → Reaches d k s t l.m l.n l.i l.sum)

abbrev pub decreases-loop-i : goal.decreases-loop-i
decreases-loop-i g l = l.i
