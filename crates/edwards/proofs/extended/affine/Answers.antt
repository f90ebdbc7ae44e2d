use Rattle.std.proofs.Common.{◌∙◌, mod-eq_of_lt}
use Rattle.ark_groups.specs.Words.{number}
use Rattle.ark_wide_fields.specs.Laws.Fp256.{wide_below}
use Rattle.edwards.specs.Values.{value}
use Rattle.edwards.proofs.Divided.{divided, is_prime}
use Rattle.edwards.proofs.extended.affine.Goals as goal

pub returns-clause-x : goal.returns-clause-x
returns-clause-x g c d k s on of_a =
    let p = number g.M.WideModulus.P in
    let z = c.args.a.z in
    c.mul.ensures ∙ divided p (value c.args.a.x) s.x (value z) (value c.prime_inverse-z.result) on.x_below of_a.first
    (c.prime_inverse-z.ensures (is_prime p d k) (λ none. of_a.some (mod-eq_of_lt (wide_below z) ∙ none)))

pub returns-clause-y : goal.returns-clause-y
returns-clause-y g c d k s on of_a =
    let p = number g.M.WideModulus.P in
    let z = c.args.a.z in
    c.mul-2.ensures ∙ divided p (value c.args.a.y) s.y (value z) (value c.prime_inverse-z.result) on.y_below of_a.second
    (c.prime_inverse-z.ensures (is_prime p d k) (λ none. of_a.some (mod-eq_of_lt (wide_below z) ∙ none)))
