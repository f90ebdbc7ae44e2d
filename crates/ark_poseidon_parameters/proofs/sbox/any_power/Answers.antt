use Rattle.std.proofs.Common.{◌≡◌, ◌*◌, ◌/◌, ◌%◌, ◌^◌, sym, ap, ◌∙◌, arith}
use Rattle.ark_poseidon_parameters.proofs.Powers.{even_step, odd_step, whole_power, no_power}
use Rattle.ark_poseidon_parameters.proofs.sbox.any_power.Goals as goal
use Rattle.ark_poseidon_parameters.proofs.sbox.any_power.Goals.{then-rest-eq1, else-rest-eq1}

pub loop-rest-init : goal.loop-rest-init
loop-rest-init g c =
    let x = g.F.Valued.value c.args.x in
    ap (λ n. (n * x ^ c.args.exponent) % g.F.Field.MODULUS) c.one-product.ensures ∙ no_power x c.args.exponent
    g.F.Field.MODULUS

pub loop-rest-preserved : goal.loop-rest-preserved
loop-rest-preserved g c =
    let value = g.F.Valued.value in
    let p = g.F.Field.MODULUS in
    let l = c.loop-rest in
    let whole = value c.args.x ^ c.args.exponent % p in
    let half = l.rest / 2 in
    let next = value c.mul-base.result in
    elim c.if-rest-eq1.branch [
      | then-rest-eq1 w ↦
          ap (λ x. (value x * next ^ half) % p) w.product-is
          ∙ odd_step (value l.product) (value w.mul-product.result) (value l.base) next l.rest half p whole
          (omega (arith, w.if-rest-eq1.true)) c.mul-base.ensures w.mul-product.ensures l.invariant
      | else-rest-eq1 w ↦
          ap (λ x. (value x * next ^ half) % p) w.product-is
          ∙ even_step (value l.product) (value l.base) next l.rest half p whole
          (omega (arith, w.if-rest-eq1.false)) c.mul-base.ensures l.invariant
    ]

pub returns : goal.returns
returns g c =
    let value = g.F.Valued.value in
    let l = c.loop-rest in
    let none : l.rest ≡ 0 = omega (arith, c.loop-rest-test.false) in
    whole_power (value l.product) (value l.base) g.F.Field.MODULUS _ (g.met.F.Field.laws.below l.product)
    (ap (λ n. (value l.product * value l.base ^ n) % g.F.Field.MODULUS) (sym none) ∙ l.invariant)
