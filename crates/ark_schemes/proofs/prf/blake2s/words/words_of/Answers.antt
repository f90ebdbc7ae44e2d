use Rattle.std.proofs.Common.{◌≡◌, ◌*◌, ◌+◌, arith, ◌∙◌, ap}
use Rattle.ark_schemes.specs.Blake2s.{word_from}
use Rattle.ark_schemes.proofs.Texts.{words_are}
use Rattle.ark_schemes.proofs.prf.blake2s.words.words_of.Goals as goal

pub returns : goal.returns
returns c = words_are c.args.block.now 0 c.load.words c.load.invariant.size (λ k lt.
    let same : 4 * k ≡ 0 + 4 * k = omega arith in
    c.load.invariant.loaded k (omega arith) ∙ ap (word_from c.args.block.now) same)
