use Rattle.std.proofs.Common.{rules, ◌≡◌, ◌*◌, ◌∙◌, arith, drop, sym}
use Rattle.sha2.specs.Sha256.{word_at}
use Rattle.sha256_lanes.proofs.LaneLemmas.{each_more}
use Rattle.sha256_lanes.proofs.LongTextLemmas.{word_at-drop}
use Rattle.sha256_lanes.proofs.long_texts.block_words.Goals as goal

pub load-preserved : goal.load-preserved
load-preserved c = (
  search rules,
  each_more (λ k word. word ≡ word_at (drop c.args.from c.args.blocks.now) (4 * k)) c.load.w c.load.k _ 0 (omega arith)
      c.load.invariant.1 (c.load_be.ensures ∙ sym (word_at-drop _ c.args.from (4 * c.load.k))),
)

pub returns : goal.returns
returns c =
    let done : c.load.k ≡ 16 = omega arith in
    rw done at c.load.invariant.1
