use Rattle.std.proofs.Common.{◌<◌, map, length, arith}
use Rattle.std.proofs.Math.ListN.{length-map}
use Rattle.ark_sponge.proofs.Rows.{poseidon_rounds-more, row_read}
use Rattle.ark_sponge.proofs.poseidon.permutation.apply_rounds.Goals as goal

pub loop-row-preserved : goal.loop-row-preserved
loop-row-preserved g c =
    let f = g.F.Field in
    let rows = c.args.constants.now in
    let i = c.loop-row.row-index in
    let row = c.deref.result.now in
    let in_rows : i < length rows = omega arith in
    poseidon_rounds-more f.MODULUS _ _ c.args.count _ _ (map g.F.Valued.value row) _ _ _ i (rw length-map in_rows)
    c.loop-row.invariant (row_read g.F.Valued.value f.MODULUS (λ v. v.items) rows i _ row in_rows c.row-item.is
    c.deref.ensures.value)
    c.write_images.ensures c.multiply.ensures.value
