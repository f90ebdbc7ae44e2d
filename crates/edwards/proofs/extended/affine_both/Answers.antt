use Rattle.std.proofs.Common.{◌≡◌, ◌*◌, ◌%◌, sym, ◌∙◌}
use Rattle.ark_groups.specs.Words.{number}
use Rattle.edwards.specs.Laws.Completeness.{has_inverses}
use Rattle.edwards.specs.Laws.CurveLaws.{same_coordinates}
use Rattle.edwards.specs.Laws.Quotients.{product_some}
use Rattle.edwards.specs.Values.{value}
use Rattle.edwards.proofs.Divided.{divided, is_prime, inverse_of_first, inverse_of_second}
use Rattle.edwards.proofs.extended.affine_both.Goals as goal

pub returns-clause-first : goal.returns-clause-first
returns-clause-first g c d k s t on_s on_t of_a of_b =
    let p = number g.M.WideModulus.P in
    let a = c.args.a in
    let y = value a.z in
    let z = value c.args.b.z in
    let i = value c.prime_inverse-inverse.result in
    let inverts : value c.mul.result * i % p ≡ 1 =
    c.prime_inverse-inverse.ensures (is_prime p d k)
    (λ none. product_some p (has_inverses p d k) y z of_a.some of_b.some (sym c.mul.ensures ∙ none)) in
    let of_z : y * value c.mul-of_a.result % p ≡ 1 =
    inverse_of_first p y z (value c.mul.result) i (value c.mul-of_a.result) c.mul.ensures inverts c.mul-of_a.ensures in
    same_coordinates _ s
    (c.mul-2.ensures ∙ divided p (value a.x) s.x y (value c.mul-of_a.result) on_s.x_below of_a.first of_z)
    (c.mul-3.ensures ∙ divided p (value a.y) s.y y (value c.mul-of_a.result) on_s.y_below of_a.second of_z)

pub returns-clause-second : goal.returns-clause-second
returns-clause-second g c d k s t on_s on_t of_a of_b =
    let p = number g.M.WideModulus.P in
    let b = c.args.b in
    let y = value c.args.a.z in
    let z = value b.z in
    let i = value c.prime_inverse-inverse.result in
    let inverts : value c.mul.result * i % p ≡ 1 =
    c.prime_inverse-inverse.ensures (is_prime p d k)
    (λ none. product_some p (has_inverses p d k) y z of_a.some of_b.some (sym c.mul.ensures ∙ none)) in
    let of_z : z * value c.mul-of_b.result % p ≡ 1 =
    inverse_of_second p y z (value c.mul.result) i (value c.mul-of_b.result) c.mul.ensures inverts c.mul-of_b.ensures in
    same_coordinates _ t
    (c.mul-4.ensures ∙ divided p (value b.x) t.x z (value c.mul-of_b.result) on_t.x_below of_b.first of_z)
    (c.mul-5.ensures ∙ divided p (value b.y) t.y z (value c.mul-of_b.result) on_t.y_below of_b.second of_z)
