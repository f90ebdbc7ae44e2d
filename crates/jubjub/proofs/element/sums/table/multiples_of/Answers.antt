use Rattle.std.proofs.Common.{map, ◌++◌, ap, ap₂}
use Rattle.jubjub.specs.Sums.{total}
use Rattle.jubjub.specs.Tables.{rows_of}
use Rattle.jubjub.proofs.TableRows.{row_put, rows_put}
use Rattle.jubjub.proofs.element.sums.table.multiples_of.Goals as goal

pub loop-init : goal.loop-init
loop-init c =
    ap₂ (λ front x. front ++ rows_of 51 x) (ap (map total) c.in_ok-sums.ensures.items) c.to_sum-unit.ensures

pub loop-preserved : goal.loop-preserved
loop-preserved c =
    row_put (map total c.loop.sums.items) (map total c.push_multiples.new.sums.items) (total c.loop.unit)
    (total c.in_ok-unit.unit) c.loop.counter _ c.loop-test.true c.in_ok-unit.ensures.row
    c.in_ok-unit.ensures.next c.loop.invariant

pub returns-clause-made : goal.returns-clause-made
returns-clause-made c =
    rows_put (map total c.loop.sums.items) (total c.loop.unit) c.loop.counter _ c.loop-test.false c.loop.invariant
