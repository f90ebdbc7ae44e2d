use Rattle.std.proofs.Common.{sym, arith}
use Rattle.poseidon_grain.proofs.Bits.{no_digit, one_digit, drawn-small}
use Rattle.poseidon_grain.proofs.register.next_word.Goals as goal

pub loop-init : goal.loop-init
loop-init c = sym (no_digit c.args.register.now)

pub overflow_mul-value : goal.overflow_mul-value
overflow_mul-value c =
    omega (
      arith,
      drawn-small c.loop.counter c.args.register.now c.loop.value c.loop.register c.loop.invariant
          (omega (arith, c.requires, c.loop-test.true)),
    )

pub overflow_add-value : goal.overflow_add-value
overflow_add-value c =
    omega (
      arith,
      c.next_bit.ensures.below,
      drawn-small c.loop.counter c.args.register.now c.loop.value c.loop.register c.loop.invariant
          (omega (arith, c.requires, c.loop-test.true)),
    )

pub loop-preserved : goal.loop-preserved
loop-preserved c =
    one_digit c.loop.counter c.args.register.now c.loop.value c.loop.register c.next_bit.result c.next_bit.new.register
    c.loop.invariant c.next_bit.ensures.drawn
