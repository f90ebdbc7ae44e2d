use Rattle.poseidon2.proofs.BlockSums.{map-set_four}
use Rattle.poseidon2.proofs.blocks.write_block.Goals as goal

pub returns : goal.returns
returns g c =
    let x = c.args.x in
    map-set_four g.F.Valued.value c.args.state.now c.args.at x.w0 x.w1 x.w2 x.w3
