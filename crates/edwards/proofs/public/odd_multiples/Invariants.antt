use Rattle.std.proofs.Common.{◌≡◌, ℕ, ◌*◌, ◌-◌, ◌%◌, length}
use Rattle.ark_groups.specs.Group.{times}
use Rattle.ark_groups.specs.Words.{number}
use Rattle.edwards.specs.Curves.{IsComplete}
use Rattle.edwards.specs.Laws.Points.{Point, points}
use Rattle.edwards.specs.Cached.{AreOddMultiples}
use Rattle.edwards.specs.Extended.{Stands}
use Rattle.edwards.specs.Values.{value}
use Rattle.edwards.proofs.public.odd_multiples.Given as goal

-- whatever curve and point the arguments stand for, its first odd multiples are in the table
abbrev pub invariant-loop-i : goal.invariant-loop-i
invariant-loop-i g l =
    (length l.table ≡ 8) × ((d : ℕ) (k : IsComplete (number g.M.WideModulus.P) d)
    → value l.fn.twice ≡ 2 * d % number g.M.WideModulus.P
    → (s : Point (number g.M.WideModulus.P) d k) → Stands l.fn.a s.at
    → Stands l.last (times (points (number g.M.WideModulus.P) d k) (2 * l.i - 1) s).at
    × AreOddMultiples d k s l.i l.table)
