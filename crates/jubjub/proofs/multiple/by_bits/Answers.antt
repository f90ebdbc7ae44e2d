use Rattle.std.proofs.Common.{◌/◌, subst, sym, arith}
use Rattle.jubjub.specs.Extended.{Extended}
use Rattle.jubjub.specs.Jubjub.{d}
use Rattle.jubjub.specs.Laws.Completeness.{jubjub_is_complete}
use Rattle.edwards.proofs.Bits.{AreLeft, all_left, even_left, odd_left, none_left}
use Rattle.jubjub.proofs.multiple.by_bits.Goals as goal
use Rattle.jubjub.proofs.multiple.by_bits.Goals.{then-rest-eq1, else-rest-eq1}

pub loop-rest-init : goal.loop-rest-init
loop-rest-init c s on of_a =
    all_left d jubjub_is_complete c.zero-sum.result c.args.a c.args.scalar s on c.zero-sum.ensures of_a

pub loop-rest-preserved : goal.loop-rest-preserved
loop-rest-preserved c s on of_a =
    let before = c.loop-rest in
    let left = before.invariant s on of_a in
    let n = c.args.scalar in
    let power = c.doubled-power.result in
    let half = before.rest / 2 in
    elim c.if-rest-eq1.branch [
      | then-rest-eq1 w ↦ subst (λ (e : Extended). AreLeft d jubjub_is_complete e power half n s) (sym w.sum-is)
          (odd_left d jubjub_is_complete before.sum before.power w.plus-sum.result power before.rest n s on
          (w.plus-sum.ensures d jubjub_is_complete c.twice_coefficient-twice.ensures)
          (c.doubled-power.ensures d jubjub_is_complete) w.if-rest-eq1.true left)
      | else-rest-eq1 w ↦ subst (λ (e : Extended). AreLeft d jubjub_is_complete e power half n s) (sym w.sum-is)
          (even_left d jubjub_is_complete before.sum before.power power before.rest n s on
          (c.doubled-power.ensures d jubjub_is_complete) w.if-rest-eq1.false left)
    ]

pub returns : goal.returns
returns c s on of_a =
    none_left d jubjub_is_complete c.loop-rest.sum c.loop-rest.power c.loop-rest.rest c.args.scalar s
    (omega (arith, c.loop-rest-test.false)) (c.loop-rest.invariant s on of_a)
