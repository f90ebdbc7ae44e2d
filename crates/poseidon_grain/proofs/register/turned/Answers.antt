use Rattle.std.proofs.Common.{◌+◌, ◌*◌, sym, ap, ◌∙◌, arith}
use Rattle.poseidon_grain.specs.Grain.{bit}
use Rattle.poseidon_grain.proofs.Bits.{turned-small, no_digit_turned, one_digit_turned}
use Rattle.poseidon_grain.proofs.register.turned.Goals as goal

pub loop-place-init : goal.loop-place-init
loop-place-init c = sym (no_digit_turned c.args.number)

pub overflow_mul-result : goal.overflow_mul-result
overflow_mul-result c =
    omega (
      arith,
      c.loop-place.invariant,
      c.requires,
      c.loop-place-test.true,
      turned-small c.loop-place.place c.args.number,
    )

pub overflow_add-result : goal.overflow_add-result
overflow_add-result c =
    omega (
      arith,
      c.loop-place.invariant,
      c.requires,
      c.loop-place-test.true,
      turned-small c.loop-place.place c.args.number,
    )

pub loop-place-preserved : goal.loop-place-preserved
loop-place-preserved c =
    ap (λ n. bit c.loop-place.place c.args.number + 2 * n) c.loop-place.invariant
    ∙ sym (one_digit_turned c.loop-place.place c.args.number)

pub returns-clause-below : goal.returns-clause-below
returns-clause-below c =
    omega (
      arith,
      c.loop-place.invariant,
      c.requires,
      c.loop-place.auto.place-end,
      c.loop-place-test.false,
      turned-small c.loop-place.place c.args.number,
    )
