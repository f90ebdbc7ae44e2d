use Rattle.std.proofs.Common.{◌+◌, ◌*◌, ◌<◌, length, map, arith}
use Rattle.std.proofs.lemmas.List.{length-map}
use Rattle.poseidon2.specs.Blocks.{sum_at}
use Rattle.poseidon2.proofs.BlockSums.{block-more}
use Rattle.poseidon2.proofs.layers.add_to_blocks.Goals as goal

pub loop-b-preserved : goal.loop-b-preserved
loop-b-preserved g c =
    let f = g.F.Valued.value in
    let s = c.args.s in
    let within : 4 * c.loop-b.b + 3 < length c.args.state.now = omega arith in
    let read = c.block_at.ensures in
    let made = c.sum_of_blocks-sums.ensures in
    rw (
      c.write_block.ensures,
      made.w0,
      made.w1,
      made.w2,
      made.w3,
      read.w0,
      read.w1,
      read.w2,
      read.w3,
      c.loop-b.invariant,
    )
    (block-more (sum_at g.F.Field.MODULUS (f s.w0) (f s.w1) (f s.w2) (f s.w3)) c.loop-b.b (map f c.args.state.now)
    (rw length-map within))
