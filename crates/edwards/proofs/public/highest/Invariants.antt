use Rattle.std.proofs.Common.{◌≤◌}
use Rattle.edwards.specs.Digits.{IsBlankFrom}
use Rattle.edwards.proofs.public.highest.Given as goal

-- nothing stands from the place on
abbrev pub invariant-loop-i : goal.invariant-loop-i
invariant-loop-i l = record { within : l.i ≤ 257; first : IsBlankFrom l.i l.m; second : IsBlankFrom l.i l.n }

abbrev pub decreases-loop-i : goal.decreases-loop-i
decreases-loop-i l = l.i
