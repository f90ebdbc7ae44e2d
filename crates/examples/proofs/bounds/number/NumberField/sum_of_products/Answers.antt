use Rattle.std.proofs.Common.{◌+◌, ◌%◌, ◌∙◌, sym, ap, ℕ, arith}
use Rattle.std.proofs.Math.Nat.{mod-eq_of_lt, mod-mod, add-mod-mod}
use Rattle.ark_groups.proofs.Products.{product_more}
use Rattle.examples.proofs.bounds.number.NumberField.sum_of_products.Goals as goal

pub loop-i-preserved : goal.loop-i-preserved
loop-i-preserved g c =
    let p = g.M.Modulus.P in
    let l = c.loop-i in
    let new = c.add-sum.result.value in
    sym (mod-eq_of_lt c.add-sum.result.reduced)
    ∙ product_more (λ x. x.0.value) p c.args.xs.now c.args.ys.now l.i c.index-xs-i.result c.index-ys-i.result
    l.sum.value
    new c.loop-i-test.true (omega (arith, c.loop-i-test.true, c.requires)) c.index-xs-i.is
    (ap (λ (n : ℕ). n % p) l.invariant ∙ mod-mod _ p)
    (ap (λ (n : ℕ). n % p) c.add-sum.ensures ∙ mod-mod _ p ∙ ap (λ n. (l.sum.value + n) % p) c.mul.ensures
    ∙ add-mod-mod l.sum.value _ p)
