use Rattle.std.proofs.Common.{◌≡◌, ◌-◌, ◌++◌, map}
use Rattle.jubjub.specs.Sums.{total}
use Rattle.jubjub.specs.Tables.{rows_of}
use Rattle.jubjub.proofs.element.sums.table.multiples_of.Given as goal

-- what was put, and what is still to be put, are the whole
abbrev pub invariant-loop : goal.invariant-loop
invariant-loop l =
    map total l.sums.items ++ rows_of (51 - l.counter) (total l.unit) ≡ rows_of 51 l.fn.element
