use Rattle.std.proofs.Common.{map}
use Rattle.std.proofs.lemmas.List.{length-map}
use Rattle.poseidon2.proofs.BlockSums.{circulant-by-sums}
use Rattle.poseidon2.proofs.layers.multiply_circulant.Goals as goal

pub returns : goal.returns
returns g c =
    let s = c.columns-s.ensures in
    rw (c.add_to_blocks.ensures, s.w0, s.w1, s.w2, s.w3, c.multiply_blocks.ensures)
    (circulant-by-sums g.F.Field.MODULUS g.B.BlockMatrix.matrix g.B.BlockMatrix.rows_of_four c.args.blocks
    (map g.F.Valued.value c.args.state.now) (rw length-map c.requires))
