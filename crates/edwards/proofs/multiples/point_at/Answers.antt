use Rattle.std.proofs.Common.{arith}
use Rattle.edwards.proofs.Digits.{found_next, is_chosen}
use Rattle.edwards.proofs.multiples.point_at.Goals as goal

pub loop-i-init : goal.loop-i-init
loop-i-init g c = (λ below. absurd (omega (arith, below)), λ left. c.blank-found.ensures)

pub point_under-found-requires-clause-none : goal.point_under-found-requires-clause-none
point_under-found-requires-clause-none g c full =
    c.loop-i.invariant.1
    (omega (arith, is_chosen c.loop-i.i c.args.index c.mask_of.result c.mask_of.ensures.bits full))

pub loop-i-preserved : goal.loop-i-preserved
loop-i-preserved g c =
    found_next c.args.table.now c.loop-i.i c.args.index c.mask_of.result c.index-table-i.result c.loop-i.found
    c.point_under-found.result c.mask_of.ensures.bits c.point_under-found.ensures.first
    c.point_under-found.ensures.second c.point_under-found.ensures.blank c.loop-i.invariant

pub returns : goal.returns
returns g c = c.loop-i.invariant.0 (omega (arith, c.requires, c.loop-i-test.false))
