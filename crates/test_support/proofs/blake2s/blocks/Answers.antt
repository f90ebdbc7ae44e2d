use Rattle.std.proofs.Common.{◌∙◌, List, ℕ, ap, take, arith}
use Rattle.ark_schemes.specs.Blake2s.{full_block}
use Rattle.test_support.proofs.PlainBlocks.{first_blocks_more, first_blocks_all}
use Rattle.test_support.proofs.blake2s.blocks.Goals as goal

pub text-preserved : goal.text-preserved
text-preserved c =
    let block = c.filled.ensures ∙ ap (λ (rest : List ℕ). full_block (take 64 rest)) c.rest_of.ensures in
    c.in_ok-push.ensures.items ∙ first_blocks_more c.args.text.now c.text.blocks.items c.text.i _ _ c.text.invariant
    block c.words_of.ensures

pub returns : goal.returns
returns c = c.text.invariant ∙ first_blocks_all c.args.text.now c.text.i (omega arith)
