use Rattle.std.proofs.Common.{arith}
use Rattle.ark_absorb.proofs.Appended.{Put-zero, Put-suc, Put-undone, Put-refused, Put-all}
use Rattle.ark_absorb.proofs.batch.push_elements_by_item.Goals as goal

pub loop-item-init : goal.loop-item-init
loop-item-init g c =
    let elements = λ (x : g.row.A.Denot). g.A.AbsorbItem.sponge_elements x g.F.Field.MODULUS
    g.F.Field.MODULUS_BIT_SIZE in
    Put-zero g.F.Valued.value elements c.args.batch.now c.args.dest.now.items

pub loop-item-preserved : goal.loop-item-preserved
loop-item-preserved g c =
    let elements = λ (x : g.row.A.Denot). g.A.AbsorbItem.sponge_elements x g.F.Field.MODULUS
    g.F.Field.MODULUS_BIT_SIZE in
    Put-suc g.F.Valued.value elements c.args.batch.now c.loop-item.item-index c.item-item.result c.args.dest.now.items
    c.loop-item.dest.items c.push_elements.new.dest.items
    c.loop-item-test.true c.item-item.is c.loop-item.invariant c.in_default.ensures

pub returns-in-Err : goal.returns-in-Err
returns-in-Err g c =
    let elements = λ (x : g.row.A.Denot). g.A.AbsorbItem.sponge_elements x g.F.Field.MODULUS
    g.F.Field.MODULUS_BIT_SIZE in
    let value = g.F.Valued.value in
    let refused = c.in-Err.ensures in
    let undone = Put-undone value elements c.args.batch.now c.loop-item.item-index c.args.dest.now.items
    c.loop-item.dest.items c.loop-item.invariant in (
      Put-refused value elements c.args.batch.now c.loop-item.item-index c.item-item.result c.in-Err.refusal
          c.args.dest.now.items c.loop-item.dest.items
          c.loop-item-test.true c.item-item.is c.loop-item.invariant refused.0,
      rw (c.truncate.ensures.items, refused.1, c.len-start.ensures, c.args.dest.now.ok.0) undone,
    )

pub returns : goal.returns
returns g c =
    let elements = λ (x : g.row.A.Denot). g.A.AbsorbItem.sponge_elements x g.F.Field.MODULUS
    g.F.Field.MODULUS_BIT_SIZE in
    Put-all g.F.Valued.value elements c.args.batch.now c.loop-item.item-index c.args.dest.now.items
    c.loop-item.dest.items (omega (arith, c.loop-item-test.false)) c.loop-item.invariant
