use Rattle.std.proofs.Common.{◌≡◌, ◌+◌, ◌/◌, ◌%◌, ◌^◌, ◌∙◌, ap, subst, arith}
use Rattle.ark_groups.specs.Group.{times}
use Rattle.ark_groups.specs.Words.{number}
use Rattle.edwards.specs.Edwards.{sum}
use Rattle.edwards.specs.Extended.{Stands}
use Rattle.edwards.proofs.Sums.{multiple_on_curve}
use Rattle.ed25519.specs.Edwards25519.{p, d, curve, base_point}
use Rattle.ed25519.specs.Laws.Curve.{ed25519_is_complete}
use Rattle.ed25519.specs.Laws.Base.{base_on_curve}
use Rattle.ed25519.specs.BaseTable.{row_unit}
use Rattle.ed25519.specs.Multiples.{every_fourth}
use Rattle.ed25519.proofs.BaseRows.{unit_on}
use Rattle.ed25519.proofs.BaseDigits.{no_digits, digit_added, place_next}
use Rattle.ed25519.proofs.base.with_every_fourth.Goals as goal

pub loop-i-init : goal.loop-i-init
loop-i-init c = (omega arith, λ m. no_digits c.args.sum m (number c.args.scalar))

pub prepared-requires : goal.prepared-requires
prepared-requires c =
    let i = c.loop-i.i in (
      times curve (c.loop-i.rest.w0 % 16) (row_unit i),
      c.forms_multiple.ensures (row_unit i) (unit_on i) c.base_row.ensures,
    )

pub loop-i-preserved : goal.loop-i-preserved
loop-i-preserved c =
    let i = c.loop-i.i in
    let n = number c.args.scalar in
    let left = c.loop-i.invariant.0 in
    let word = c.loop-i.rest.w0 in
    let digit = word % 16 in
    let lowest : digit ≡ number c.loop-i.rest % 16 = omega arith in
    let digit_is : digit ≡ n / 65536 ^ i % 16 = lowest ∙ ap (λ k. k % 16) left in
    let k = ed25519_is_complete in
    let r = c.plus_prepared-so_far.result in (
      c.without_four-rest.ensures ∙ ap (λ k. k / 65536) left ∙ place_next n i,
      λ m of_sum.
          let count = m + every_fourth i n in
          let s = times curve count base_point in
          let t = times curve digit (row_unit i) in
          digit_added r m i n
          (subst (λ k. Stands r (sum p d s (times curve k (row_unit i)))) digit_is
          (c.plus_prepared-so_far.ensures d k s t (multiple_on_curve p d k count base_point base_on_curve)
          (multiple_on_curve p d k digit (row_unit i) (unit_on i)) (c.loop-i.invariant.1 m of_sum)
          (c.prepared.ensures t (c.forms_multiple.ensures (row_unit i) (unit_on i) c.base_row.ensures)))),
    )

pub returns : goal.returns
returns c m of_sum =
    let last : c.loop-i.i ≡ 16 = omega (arith, c.loop-i-test.false, c.loop-i.auto.i-end) in
    subst (λ i. Stands c.loop-i.so_far (times curve (m + every_fourth i (number c.args.scalar)) base_point)) last
    (c.loop-i.invariant.1 m of_sum)
