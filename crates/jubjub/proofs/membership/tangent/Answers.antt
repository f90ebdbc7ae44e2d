use Rattle.std.proofs.Common.{◌+◌, ◌*◌, ◌%◌, refl, ◌∙◌, ap}
use Rattle.number_facts.proofs.CongruenceLaws.{sums}
use Rattle.jubjub.specs.Jubjub.{p}
use Rattle.jubjub.specs.Membership.{tangent_slope}
use Rattle.jubjub.specs.Values.{value}
use Rattle.jubjub.proofs.Steps.{sum_of, product_of}
use Rattle.jubjub.proofs.membership.tangent.Goals as goal

pub returns : goal.returns
returns c =
    let x = value c.args.turned in
    let y = value c.args.y in
    let one = value c.one-one.result in
    let slope = value c.from_words-slope.result in
    let is_one = ap (λ n. n % p) c.one-one.ensures in
    let is_slope = ap (λ n. n % p) c.from_words-slope.ensures in
    c.add-3.ensures ∙ sums p (value c.add.result) (1 + y) (value c.mul-2.result) (x * (1 + tangent_slope * y))
    (sum_of p one y 1 y (value c.add.result) is_one refl c.add.ensures)
    (product_of p x (value c.add-2.result) x (1 + tangent_slope * y) (value c.mul-2.result) refl
    (sum_of p one (value c.mul.result) 1 (tangent_slope * y) (value c.add-2.result) is_one
    (product_of p slope y tangent_slope y (value c.mul.result) is_slope refl c.mul.ensures) c.add-2.ensures)
    c.mul-2.ensures)
