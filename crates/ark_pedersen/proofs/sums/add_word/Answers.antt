use Rattle.std.proofs.Common.{◌≡◌, ℕ, ◌-◌, ◌∙◌, drop, sym, ap, arith}
use Rattle.std.proofs.lemmas.Nat.{and_le_l}
use Rattle.ark_groups.proofs.Multiples.{right_identity}
use Rattle.ark_groups.specs.Bits.{bits_of_number}
use Rattle.ark_pedersen.specs.Pedersen.{window_bits, lists_in, concatenation, pedersen_sum}
use Rattle.ark_pedersen.proofs.BitSums.{place_in, lowest_added, pedersen_sum-zero}
use Rattle.ark_pedersen.proofs.sums.add_word.Goals as goal

pub generator_at-requires-clause-within : goal.generator_at-requires-clause-within
generator_at-requires-clause-within g c =
    place_in c.args.first (window_bits g.W.Window) c.loop-word.word c.args.word c.loop-word-test.true (omega arith)
    c.loop-word.invariant.1 c.requires.fits

pub loop-word-preserved : goal.loop-word-preserved
loop-word-preserved g c = (
  rw c.add_to_sum-sum.ensures (lowest_added g.met.C.AdditiveGroup.laws (concatenation (lists_in c.args.generators.now))
      (g.C.AdditiveGroup.total c.loop-word.sum) c.generator_at.result c.args.first c.loop-word.word
      c.loop-word-test.true (omega arith) c.generator_at.ensures.within c.generator_at.ensures.is
      ∙ c.loop-word.invariant.0),
  omega (arith, and_le_l c.loop-word.word (c.loop-word.word - 1), c.loop-word.invariant.1),
)

pub returns : goal.returns
returns g c =
    let group = g.C.AdditiveGroup.group in
    let sum = g.C.AdditiveGroup.total c.loop-word.sum in
    let behind = drop c.args.first (concatenation (lists_in c.args.generators.now)) in
    let none : c.loop-word.word ≡ 0 = omega arith in
    sym (right_identity g.met.C.AdditiveGroup.laws sum)
    ∙ ap (group.plus sum) (sym (ap (λ (n : ℕ). pedersen_sum group behind (bits_of_number 64 n)) none
    ∙ pedersen_sum-zero group behind 64))
    ∙ c.loop-word.invariant.0
