use Rattle.std.proofs.Common.{arith}
use Rattle.test_support.proofs.PlainBlocks.{full_block-bytes}
use Rattle.test_support.proofs.blake2s.filled.Goals as goal

pub returns : goal.returns
returns c = full_block-bytes c.args.bytes.now c.fill.block c.fill.invariant.size (λ k lt. c.fill.invariant.copied k
    (omega arith))
