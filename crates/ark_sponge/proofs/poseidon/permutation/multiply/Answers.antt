use Rattle.std.proofs.Common.{◌<◌, map, length, arith}
use Rattle.std.proofs.Math.ListN.{length-map}
use Rattle.ark_sponge.proofs.Rows.{product_written, row_read}
use Rattle.ark_sponge.proofs.poseidon.permutation.multiply.Goals as goal

pub loop-i-preserved : goal.loop-i-preserved
loop-i-preserved g c =
    let f = g.F.Field in
    let rows = c.args.mds.now in
    let i = c.loop-i.i in
    let row = c.deref.result.now in
    let in_rows : i < length rows = omega arith in
    product_written g.F.Valued.value f.MODULUS (map (λ row. map g.F.Valued.value row.items) rows) c.loop-i.product
    (map g.F.Valued.value c.args.state.now) (map g.F.Valued.value row) i _ (rw length-map in_rows) (omega arith)
    c.loop-i.invariant (row_read g.F.Valued.value f.MODULUS (λ v. v.items) rows i _ row in_rows c.index-mds-i.is
    c.deref.ensures.value) c.sum_of_products.ensures
