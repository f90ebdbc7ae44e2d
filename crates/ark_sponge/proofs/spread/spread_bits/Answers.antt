use Rattle.std.proofs.Common.{length, arith}
use Rattle.ark_groups.specs.Bits.{bits_of_number}
use Rattle.ark_sponge.proofs.Spreads.{IsFilled-element, length-bits_of_number, take-bits_of_number}
use Rattle.ark_sponge.proofs.spread.spread_bits.Goals as goal

pub loop-element-preserved : goal.loop-element-preserved
loop-element-preserved g c =
    let l = c.loop-element in
    let w = c.write_bits_at in
    IsFilled-element g.F.Valued.value bits_of_number c.args.size (length c.args.out.now) length-bits_of_number
    take-bits_of_number c.args.elements.now l.element-index
    c.element-item.result l.done c.min-count.result l.out w.new.out (omega arith) c.element-item.is c.min-count.ensures
    w.ensures.front w.ensures.length l.invariant
