use Rattle.std.proofs.Common.{◌≡◌, ℕ, ◌*◌, ◌%◌}
use Rattle.ark_groups.specs.Words.{number}
use Rattle.edwards.specs.Edwards.{Coordinates, IsOnCurve}
use Rattle.edwards.specs.Curves.{IsComplete}
use Rattle.edwards.specs.Values.{value}
use Rattle.edwards.specs.Extended.{Stands}
use Rattle.edwards.proofs.Digits.{Counted}
use Rattle.edwards.proofs.multiples.multiple.Given as goal

-- whatever curve and point the arguments stand for, the highest digits so far were added
abbrev pub invariant-loop : goal.invariant-loop
invariant-loop g l =
    (d : ℕ) (k : IsComplete (number g.M.WideModulus.P) d) → value l.fn.twice ≡ 2 * d % number g.M.WideModulus.P
    → (s : Coordinates) (on : IsOnCurve (number g.M.WideModulus.P) d s) → Stands l.fn.a s
    → Counted d k s on l.sum (number l.rest) l.counter (number l.fn.scalar)
