use Rattle.std.proofs.Common.{arith}
use Rattle.sha256_lanes.proofs.LongTextLemmas.{AreWords-front}
use Rattle.sha256_lanes.proofs.long_texts.text_words.Goals as goal

pub returns : goal.returns
returns c =
    let is = c.blocks_of-blocks.ensures in
    rw (← is) (
      omega arith,
      (
        AreWords-front c.blocks_of-blocks.result _ (omega arith) c.block_words-first.ensures,
        c.block_words-second.ensures,
      ),
    )
