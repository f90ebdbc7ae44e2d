use Rattle.edwards.proofs.Digits.{FoundSoFar}
use Rattle.edwards.proofs.multiples.point_at.Given as goal

-- what stands at the index was found, once the index was passed
abbrev pub invariant-loop-i : goal.invariant-loop-i
invariant-loop-i g l = FoundSoFar l.table l.index l.i l.found
