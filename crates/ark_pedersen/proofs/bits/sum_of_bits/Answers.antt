use Rattle.std.proofs.Common.{sym, ap, ◌∙◌, arith}
use Rattle.ark_pedersen.specs.Pedersen.{lists_in, concatenation}
use Rattle.ark_pedersen.proofs.BitPlaces.{one_added, one_left, all_added}
use Rattle.ark_pedersen.proofs.bits.sum_of_bits.Goals as goal
use Rattle.ark_pedersen.proofs.bits.sum_of_bits.Goals.{then-bits-place, else-bits-place}

pub generator_at-x-requires-clause-within : goal.generator_at-x-requires-clause-within
generator_at-x-requires-clause-within g c = omega (arith, c.loop-place-test.true, c.requires.within)

pub loop-place-preserved : goal.loop-place-preserved
loop-place-preserved g c =
    let all = concatenation (lists_in c.args.generators.now) in
    let bits = c.args.bits.now in
    let place = c.loop-place.place in
    let x = c.generator_at-x.result in
    let inner = c.generator_at-x.ensures.within in
    let here = sym c.generator_at-x.ensures.is in
    let group = g.C.AdditiveGroup.group in
    let laws = g.met.C.AdditiveGroup.laws in
    let total = g.C.AdditiveGroup.total in
    elim c.if-bits-place.branch [
      | then-bits-place w ↦
          one_added group laws all bits (total c.loop-place.sum) _ x _ place inner c.loop-place-test.true here
          w.if-bits-place.true (ap total w.sum-is ∙ w.add_to_sum-sum.ensures) c.loop-place.invariant
      | else-bits-place w ↦
          one_left group laws all bits (total c.loop-place.sum) _ x _ place inner c.loop-place-test.true here
          w.if-bits-place.false (ap total w.sum-is) c.loop-place.invariant
    ]

pub returns : goal.returns
returns g c =
    all_added g.C.AdditiveGroup.group g.met.C.AdditiveGroup.laws (concatenation (lists_in c.args.generators.now))
    c.args.bits.now (g.C.AdditiveGroup.total c.loop-place.sum) _ c.loop-place.place
    (omega (arith, c.loop-place-test.false)) c.loop-place.invariant
