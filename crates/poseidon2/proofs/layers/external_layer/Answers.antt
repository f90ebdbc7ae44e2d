use Rattle.std.proofs.Common.{◌<◌, length, map, ◌∙◌, arith}
use Rattle.std.proofs.lemmas.List.{length-map}
use Rattle.poseidon2.proofs.BlockSums.{block-alone}
use Rattle.poseidon2.proofs.Widths.{external-few, external-four, external-more}
use Rattle.poseidon2.proofs.layers.external_layer.Goals as goal

pub returns-then-width-lt4 : goal.returns-then-width-lt4
returns-then-width-lt4 g c =
    rw (external-few g.B.BlockMatrix.matrix (length c.args.state.now) c.if-width-lt4.true) c.add_total.ensures

pub returns-then-width-eq4 : goal.returns-then-width-eq4
returns-then-width-eq4 g c =
    let f = g.F.Valued.value in
    let s = c.args.state.now in
    let row = g.B.BlockMatrix.matrix in
    let four = c.if-width-eq4.true in
    rw (external-four row (length s) four, c.multiply_blocks.ensures)
    (block-alone g.F.Field.MODULUS row g.B.BlockMatrix.rows_of_four (map f s) (length-map s f ∙ four))

pub returns-else-width-eq4 : goal.returns-else-width-eq4
returns-else-width-eq4 g c =
    let more : 4 < length c.args.state.now = omega (arith, c.if-width-lt4.false, c.if-width-eq4.false) in
    rw (external-more g.B.BlockMatrix.matrix (length c.args.state.now) more) c.multiply_circulant.ensures
