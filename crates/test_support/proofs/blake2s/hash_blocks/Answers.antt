use Rattle.std.proofs.Common.{arith}
use Rattle.test_support.proofs.PlainBlocks.{state_after-next, last_state-end}
use Rattle.ark_schemes.proofs.Texts.{state_after-none}
use Rattle.test_support.proofs.blake2s.hash_blocks.Goals as goal

pub whole-init : goal.whole-init
whole-init c = state_after-none _ _

pub whole-preserved : goal.whole-preserved
whole-preserved c = state_after-next c.args.h c.args.blocks.now c.whole.i c.whole.h _ c.whole.invariant
    c.compress.ensures

pub returns : goal.returns
returns c = last_state-end c.args.h c.args.blocks.now c.whole.i c.whole.h _ c.args.len (omega arith) c.whole.invariant
    c.compress-2.ensures
