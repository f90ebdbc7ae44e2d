use Rattle.std.proofs.Common.{rules, ◌≡◌, ◌*◌, ◌∙◌, arith, ap, length, sym}
use Rattle.sha2.specs.Sha256.{word_at}
use Rattle.sha256_lanes.proofs.LaneLemmas.{each_more}
use Rattle.sha256_lanes.proofs.texts.text_words.Goals as goal

pub load-preserved : goal.load-preserved
load-preserved c = (
  search rules,
  each_more (λ k word. word ≡ word_at c.block_of-block.result (4 * k)) c.load.w c.load.k _ 0 (omega arith)
      c.load.invariant.1 c.load_be.ensures,
)

pub returns : goal.returns
returns c =
    let done : c.load.k ≡ 16 = omega arith in
    let is = c.block_of-block.ensures in (
      ap length (sym is) ∙ omega arith,
      rw (← is) (rw done at c.load.invariant.1),
    )
