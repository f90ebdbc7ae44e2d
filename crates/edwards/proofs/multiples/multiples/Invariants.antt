use Rattle.std.proofs.Common.{◌≡◌, ℕ, ◌*◌, ◌%◌, length}
use Rattle.ark_groups.specs.Words.{number}
use Rattle.edwards.specs.Edwards.{Coordinates, IsOnCurve}
use Rattle.edwards.specs.Curves.{IsComplete}
use Rattle.edwards.specs.Values.{value}
use Rattle.edwards.specs.Extended.{Stands, AreMultiples}
use Rattle.edwards.proofs.multiples.multiples.Given as goal

-- whatever curve and point the arguments stand for, its first multiples are in the table
abbrev pub invariant-loop-i : goal.invariant-loop-i
invariant-loop-i g l =
    (length l.table ≡ 16) × ((d : ℕ) → IsComplete (number g.M.WideModulus.P) d
    → value l.fn.twice ≡ 2 * d % number g.M.WideModulus.P
    → (s : Coordinates) → IsOnCurve (number g.M.WideModulus.P) d s → Stands l.fn.a s → AreMultiples d s l.i l.table)
