use Rattle.std.proofs.Common.{◌≡◌, ℕ, ◌-◌, ◌∙◌, length, drop, sym, ap, arith}
use Rattle.std.proofs.lemmas.Nat.{and_le_l}
use Rattle.ark_groups.proofs.Multiples.{right_identity}
use Rattle.ark_groups.specs.Bits.{bits_of_number}
use Rattle.ark_pedersen.specs.Pedersen.{pedersen_sum}
use Rattle.ark_pedersen.proofs.BitSums.{place_in, lowest_added, pedersen_sum-zero}
use Rattle.ark_schemes.proofs.commitment.pedersen.add_set_bits.Goals as goal

pub bounds-elements-first : goal.bounds-elements-first
bounds-elements-first g c = place_in c.args.first (length c.args.elements.now) c.loop-word.word c.args.word
    c.loop-word-test.true (omega arith) c.loop-word.invariant.1 c.requires

pub offset_bounds-elements-first : goal.offset_bounds-elements-first
offset_bounds-elements-first g c = omega (arith, bounds-elements-first g c)

pub loop-word-preserved : goal.loop-word-preserved
loop-word-preserved g c =
    let rest = c.loop-word.word in
    let within = place_in c.args.first (length c.args.elements.now) rest c.args.word c.loop-word-test.true (omega arith)
    c.loop-word.invariant.1 c.requires in (
      rw c.add_to_sum-sum.ensures (lowest_added g.met.C.AdditiveGroup.laws c.args.elements.now
          (g.C.AdditiveGroup.total c.loop-word.sum) c.index-elements-first.result c.args.first rest
          c.loop-word-test.true (omega arith) within c.index-elements-first.is
          ∙ c.loop-word.invariant.0),
      omega (arith, and_le_l rest (rest - 1), c.loop-word.invariant.1),
    )

pub returns : goal.returns
returns g c =
    let group = g.C.AdditiveGroup.group in
    let sum = g.C.AdditiveGroup.total c.loop-word.sum in
    let behind = drop c.args.first c.args.elements.now in
    let none : c.loop-word.word ≡ 0 = omega arith in
    sym (right_identity g.met.C.AdditiveGroup.laws sum)
    ∙ ap (group.plus sum) (sym (ap (λ (n : ℕ). pedersen_sum group behind (bits_of_number 64 n)) none
    ∙ pedersen_sum-zero group behind 64))
    ∙ c.loop-word.invariant.0
