use Rattle.std.proofs.Common.{◌≡◌, ℕ, ◌+◌, ◌*◌, ◌%◌, ◌^◌, ◌<◌, ◌≤◌, length, ap, ◌∙◌, arith}
use Rattle.ark_groups.specs.Words.{number}
use Rattle.ark_groups.proofs.Multiples.{right_identity}
use Rattle.edwards.specs.Digits.{added, taken}
use Rattle.jubjub.specs.Elements.{jubjub}
use Rattle.jubjub.specs.Laws.Group.{jubjub_laws}
use Rattle.jubjub.specs.Sums.{total}
use Rattle.jubjub.specs.Tables.{signed_at}
use Rattle.jubjub.proofs.TableRows.{none_counted, next_counted, all_counted, sum_more, sum_whole}
use Rattle.jubjub.proofs.element.sums.table.multiple_by.Goals as goal

pub loop-place-init : goal.loop-place-init
loop-place-init c =
    let sum = total c.to_sum-sum.result in (
      0,
      0,
      none_counted (number c.args.scalar),
      λ x are. right_identity jubjub_laws sum ∙ c.to_sum-sum.ensures ∙ c.zero.ensures.group,
    )

-- the row of a place stands in the table
inside : (place n : ℕ) → place < 51 → n ≡ 816 → 16 * place + 16 ≤ n
inside place n below is = omega (arith, below, is)

pub plus_digit-sum-requires-clause-inside : goal.plus_digit-sum-requires-clause-inside
plus_digit-sum-requires-clause-inside c =
    inside c.loop-place.place (length c.args.multiples.now) c.loop-place-test.true c.requires.length

pub loop-place-preserved : goal.loop-place-preserved
loop-place-preserved c =
    let i = c.loop-place.place in
    let digit = c.loop-place.rest.w0 % 32 in
    let (m, t, counted, is) = c.loop-place.invariant in (
      m + added digit * 32 ^ i,
      t + taken digit * 32 ^ i,
      next_counted i (number c.loop-place.rest) (number c.without_signed_digit-rest.result) (number c.args.scalar) m t
          digit (omega arith) c.without_signed_digit-rest.ensures counted,
      λ x are. sum_more x (total c.loop-place.sum) (total c.plus_digit-sum.result) m t i digit c.loop-place-test.true
          (omega arith)
          (c.plus_digit-sum.ensures ∙ ap (λ xs. jubjub.plus (total c.loop-place.sum) (signed_at xs (16 * i) digit)) are)
          (is x are),
    )

pub returns : goal.returns
returns c x are =
    let (m, t, counted, is) = c.loop-place.invariant in
    sum_whole x (total c.loop-place.sum) (number c.args.scalar) m t
    (all_counted c.loop-place.place (number c.loop-place.rest) (number c.args.scalar) m t
    (omega (arith, c.loop-place-test.false, c.loop-place.auto.place-end)) c.requires.fits counted)
    (is x are)
