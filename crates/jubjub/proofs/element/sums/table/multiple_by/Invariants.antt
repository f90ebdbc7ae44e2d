use Rattle.std.proofs.Common.{◌≡◌, ℕ}
use Rattle.ark_groups.specs.Group.{times}
use Rattle.ark_groups.specs.Words.{number}
use Rattle.jubjub.specs.declared.element.Jubjub.{Jubjub}
use Rattle.jubjub.specs.Elements.{jubjub}
use Rattle.jubjub.specs.Sums.{total}
use Rattle.jubjub.specs.Tables.{rows_of}
use Rattle.jubjub.proofs.TableRows.{Counted}
use Rattle.jubjub.proofs.element.sums.table.multiple_by.Given as goal

-- how often the element was added for the digits so far, and how often it was taken away
abbrev pub invariant-loop-place : goal.invariant-loop-place
invariant-loop-place l =
    (m t : ℕ) × Counted l.place (number l.rest) (number l.fn.scalar) m t
    × ((x : Jubjub) → l.multiples ≡ rows_of 51 x
    → jubjub.plus (total l.sum) (times jubjub t x) ≡ times jubjub m x)
