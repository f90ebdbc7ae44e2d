use Rattle.std.proofs.Common.{◌-◌, replicate, refl, ◌∙◌, arith}
use Rattle.std.proofs.lemmas.List.{length-set}
use Rattle.ark_groups.specs.Group.{times}
use Rattle.ark_groups.specs.Words.{number}
use Rattle.edwards.specs.Edwards.{edwards}
use Rattle.edwards.proofs.Digits.{first_multiple, next_multiple}
use Rattle.edwards.proofs.Sums.{multiple_on_curve}
use Rattle.edwards.proofs.multiples.multiples.Goals as goal

pub loop-i-init : goal.loop-i-init
loop-i-init g c = (
  refl,
  λ d k is_twice s on of_a. first_multiple d k s on c.zero-table.result (replicate 15 c.zero-table.result)
      c.zero-table.ensures,
)

pub listed : goal.listed
listed g c = omega (arith, c.loop-i.invariant.0, c.loop-i-test.true)

pub loop-i-preserved : goal.loop-i-preserved
loop-i-preserved g c =
    let before = c.loop-i in
    let i = before.i in
    let p = number g.M.WideModulus.P in (
      length-set before.table i c.plus.result ∙ before.invariant.0,
      λ d k is_twice s on of_a.
          let table = before.invariant.1 d k is_twice s on of_a in
          let last = times (edwards p d) (i - 1) s in
          next_multiple d k s on before.table i c.plus.result (omega (arith, before.auto.i))
          (omega (arith, before.invariant.0, c.loop-i-test.true)) table
          (c.plus.ensures d k is_twice last s (multiple_on_curve p d k (i - 1) s on) on
          (table (i - 1) (omega (arith, before.auto.i)) c.index-table-i.result) of_a),
    )

pub returns : goal.returns
returns g c d k is_twice s on of_a n below =
    c.loop-i.invariant.1 d k is_twice s on of_a n (omega (arith, below, c.loop-i-test.false))
