use Rattle.std.proofs.Common.{sym, arith}
use Rattle.ark_sponge.proofs.Rows.{constant_added, sums-nil}
use Rattle.ark_poseidon.proofs.constant_length.add_block.Goals as goal

pub loop-i-init : goal.loop-i-init
loop-i-init g c = sym (sums-nil _ _)

pub loop-i-preserved : goal.loop-i-preserved
loop-i-preserved g c =
    let f = g.F.Field in
    constant_added g.F.Valued.value f.MODULUS c.args.state.now c.loop-i.state c.args.block.now c.loop-i.i _ _ _
    (omega arith) (omega arith) (omega arith)
    c.loop-i.invariant c.index-state-i.is c.index-block-i.is c.add.ensures
