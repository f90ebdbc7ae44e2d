use Rattle.std.proofs.Common.{◌+◌, get_or}
use Rattle.edwards.proofs.Couples.{FoundSoFar}
use Rattle.jubjub.specs.Elements.{jubjub}
use Rattle.jubjub.specs.Tables.{element_words}
use Rattle.jubjub.proofs.element.sums.chosen.entry_for.Given as goal

-- the entry for the size was found where it was passed, and else none
abbrev pub invariant-entries : goal.invariant-entries
invariant-entries l =
    FoundSoFar l.j l.size (λ j. element_words (get_or l.multiples (l.first + j) jubjub.identity)) l.found
