use Rattle.std.proofs.Common.{◌≡◌, ◌+◌, ◌*◌, ◌^◌, ◌∙◌, ap, subst, arith}
use Rattle.ark_groups.specs.Group.{times}
use Rattle.ark_groups.specs.Words.{number}
use Rattle.edwards.specs.Edwards.{edwards}
use Rattle.edwards.specs.Extended.{Stands}
use Rattle.edwards.proofs.Digits.{begins, counted_more, counted_all}
use Rattle.edwards.proofs.multiples.multiple.Goals as goal

pub loop-init : goal.loop-init
loop-init g c d k is_twice s on of_a =
    begins d k s on c.zero-sum.result (number c.args.scalar) c.zero-sum.ensures

pub loop-preserved : goal.loop-preserved
loop-preserved g c d k is_twice s on of_a =
    let before = c.loop.invariant d k is_twice s on of_a in
    let digit = c.highest_digit-digit.result.0 in
    record {
      count = 16 * before.count + digit;
      stands = c.with_digit-sum.ensures d k is_twice s before.count on
          (c.multiples-table.ensures d k is_twice s on of_a) before.stands;
      fits = λ some. c.highest_digit-digit.ensures.fits;
      whole = counted_more (number c.args.scalar) (number c.loop.rest) (number c.highest_digit-digit.result.1) digit
          before.count c.loop.counter c.highest_digit-digit.ensures.same before.whole;
    }

pub returns : goal.returns
returns g c d k is_twice s on of_a =
    let after = c.loop.invariant d k is_twice s on of_a in
    let n = number c.args.scalar in
    let last : c.loop.counter ≡ 64 = omega (arith, c.loop-test.false, c.loop.auto.counter-end) in
    let count : after.count ≡ n =
    counted_all n after.count (number c.loop.rest) (after.fits (omega (arith, last)))
    (after.whole ∙ ap (λ i. n * 16 ^ i) last) in
    subst (λ n. Stands c.loop.sum (times (edwards (number g.M.WideModulus.P) d) n s)) count after.stands
