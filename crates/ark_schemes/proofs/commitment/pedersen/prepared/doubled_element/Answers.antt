use Rattle.std.proofs.Common.{◌≡◌, ◌∙◌, sym, ap, not, true, false, length, arith}
use Rattle.ark_pedersen.proofs.Iterates.{length-iterates}
use Rattle.ark_schemes.proofs.Doublings.{whole-list, not-doubled, clash}
use Rattle.ark_schemes.proofs.commitment.pedersen.prepared.doubled_element.Goals as goal

pub returns-then-elements-count-clause-none : goal.returns-then-elements-count-clause-none
returns-then-elements-count-clause-none g c =
    λ none element is. absurd (omega (
      arith,
      c.if-elements-count.true,
      ap length is ∙ length-iterates (λ y. g.C.AdditiveGroup.group.plus y y) c.args.count element,
    ))

pub returns-then-ne-clause-none : goal.returns-then-ne-clause-none
returns-then-ne-clause-none g c =
    let decides = g.met.C.AdditiveGroup.equal_if_same c.index-elements-i.result c.double.result in
    let differ : c.index-elements-i.result ≡ c.double.result → ⊥ =
    λ same. clash _ (sym c.ne.ensures ∙ c.if-ne.true) (decides.1 same) in
    λ none element. not-doubled g.C.AdditiveGroup.group c.args.elements.now c.args.count c.loop-i.i
    c.index-elements-i.result c.index-elements-i-in-loop-i.result c.double.result element c.loop-i.auto.i
    (omega (arith, c.loop-i-test.true)) c.index-elements-i.is c.index-elements-i-in-loop-i.is c.double.ensures differ

pub returns-clause-some : goal.returns-clause-some
returns-clause-some g c =
    whole-list g.C.AdditiveGroup.group c.args.elements.now c.index-elements-0.result c.args.count c.loop-i.i
    (omega (arith, c.if-elements-count.false)) c.requires.some (omega (arith, c.loop-i-test.false)) c.loop-i.invariant
    c.index-elements-0.is
