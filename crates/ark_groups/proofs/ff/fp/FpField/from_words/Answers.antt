use Rattle.std.proofs.Common.{arith}
use Rattle.ark_groups.proofs.Reduction.{kept}
use Rattle.ark_groups.proofs.ff.fp.FpField.from_words.Goals as goal

pub returns : goal.returns
returns g c =
    let p = g.M.Modulus.P in
    let word = g.M.Modulus.laws.in_word in
    let below = c.requires in
    omega (arith, kept c.args.words.w0 p (omega (arith, below, word)), below, word, c.from_u64.ensures)
