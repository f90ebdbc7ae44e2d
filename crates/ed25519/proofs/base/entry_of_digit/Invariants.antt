use Rattle.std.proofs.Common.{[], get_or}
use Rattle.edwards.proofs.Couples.{FoundSoFar}
use Rattle.ed25519.proofs.base.entry_of_digit.Given as goal

-- the entry for the digit was found where it was passed, and else none
abbrev pub invariant-entries : goal.invariant-entries
invariant-entries l = FoundSoFar l.j l.digit (λ j. get_or l.row j []) l.found
