use Rattle.std.proofs.Common.{refl, ◌∙◌, arith}
use Rattle.std.proofs.lemmas.List.{length-set}
use Rattle.edwards.proofs.Couples.{mask_next}
use Rattle.edwards.proofs.entries.masks_of.Goals as goal

pub numbers-init : goal.numbers-init
numbers-init c = (refl, λ k below. absurd (omega (arith, below)))

pub numbers-preserved : goal.numbers-preserved
numbers-preserved c =
    let before = c.numbers in (
      length-set before.masks before.j c.mask_in_place.result ∙ before.invariant.0,
      mask_next before.masks before.j c.args.number c.mask_in_place.result
          (omega (arith, before.invariant.0, c.numbers-test.true)) c.mask_in_place.ensures.bits before.invariant.1,
    )

pub returns : goal.returns
returns c j below = c.numbers.invariant.1 j (omega (arith, below, c.numbers-test.false))
