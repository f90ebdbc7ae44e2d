use Rattle.std.proofs.Common.{inl, inr, refl, arith}
use Rattle.ark_sponge.proofs.Rows.{image_written, images_all}
use Rattle.ark_sponge.proofs.poseidon.permutation.write_images.Goals as goal
use Rattle.ark_sponge.proofs.poseidon.permutation.write_images.Goals.{then-i-count, else-i-count}

pub loop-i-preserved : goal.loop-i-preserved
loop-i-preserved g c =
    let f = g.F.Field in
    let step = image_written g.F.Valued.value f.MODULUS (g.S.SBox.image c.args.alpha) c.args.count c.args.state.now
    c.args.row.now c.loop-i.out c.loop-i.i
    c.index-state-i.result c.index-row-i.result c.add-sum.result in
    elim c.if-i-count.branch [
      | then-i-count w ↦ rw w.out-is (step w.apply.result (omega arith) (omega arith) (omega arith) c.loop-i.invariant
          c.index-state-i.is c.index-row-i.is c.add-sum.ensures
          (inl (w.if-i-count.true, w.apply.ensures)))
      | else-i-count w ↦ rw w.out-is (step c.add-sum.result (omega arith) (omega arith) (omega arith) c.loop-i.invariant
          c.index-state-i.is c.index-row-i.is c.add-sum.ensures
          (inr (w.if-i-count.false, refl)))
    ]

pub returns : goal.returns
returns g c =
    let f = g.F.Field in
    images_all g.F.Valued.value f.MODULUS (g.S.SBox.image c.args.alpha) c.args.count c.args.state.now c.args.row.now
    c.loop-i.out c.loop-i.i (omega arith) (omega arith) c.loop-i.invariant
