use Rattle.std.proofs.Common.{ℕ, ◌+◌, ◌-◌, ◌*◌, ◌%◌, refl, ◌∙◌, ap}
use Rattle.number_facts.proofs.CongruenceLaws.{products}
use Rattle.edwards.specs.Laws.Telling.{telling_is}
use Rattle.jubjub.specs.Jubjub.{p}
use Rattle.jubjub.specs.Membership.{minus_one_root, tangent_slope}
use Rattle.jubjub.specs.Values.{value}
use Rattle.jubjub.specs.Laws.Elements.{coordinates_of}
use Rattle.jubjub.proofs.Steps.{sum_of, product_of}
use Rattle.jubjub.proofs.membership.value_at.Goals as goal

pub returns : goal.returns
returns c =
    let x = value c.args.x in
    let y = value c.args.y in
    let one = value c.one-one.result in
    let is_one = ap (λ n. n % p) c.one-one.ensures in
    let turned : ℕ = minus_one_root * x in
    let is_turned = product_of p (value c.from_words.result) x minus_one_root x (value c.mul-turned.result)
    (ap (λ n. n % p) c.from_words.ensures) refl c.mul-turned.ensures in
    let first : ℕ = turned * (1 + turned) in
    let is_first = product_of p (value c.mul-turned.result) (value c.add.result) turned (1 + turned)
    (value c.mul-first.result) is_turned
    (sum_of p one (value c.mul-turned.result) 1 turned (value c.add.result) is_one is_turned c.add.ensures)
    c.mul-first.ensures in
    let second : ℕ = 1 + (p - y * y % p) in
    let is_second = sum_of p one (p - value c.mul.result) 1 (p - y * y % p) (value c.sub-second.result) is_one
    (ap (λ n. (p - n) % p) c.mul.ensures) c.sub-second.ensures in
    let tangent : ℕ = 1 + y + turned * (1 + tangent_slope * y) in
    let is_tangent = sum_of p (1 + y) (value c.mul-turned.result * (1 + tangent_slope * y)) (1 + y)
    (turned * (1 + tangent_slope * y)) (value c.tangent.result) refl
    (products p (value c.mul-turned.result) turned (1 + tangent_slope * y) (1 + tangent_slope * y) is_turned refl)
    c.tangent.ensures in
    let inner : ℕ = tangent * second * first in
    let is_inner = product_of p (value c.mul-2.result) (value c.mul-first.result) (tangent * second) first
    (value c.mul-inner.result)
    (product_of p (value c.tangent.result) (value c.sub-second.result) tangent second (value c.mul-2.result) is_tangent
    is_second c.mul-2.ensures) is_first c.mul-inner.ensures in
    let outer : ℕ = first * (1 + y) in
    let is_outer = product_of p (value c.mul-first.result) (value c.add-2.result) first (1 + y)
    (value c.mul-outer.result)
    is_first (sum_of p one y 1 y (value c.add-2.result) is_one refl c.add-2.ensures) c.mul-outer.ensures in
    let is_square = product_of p (value c.mul-inner.result) (value c.mul-inner.result) inner inner
    (value c.mul-square.result) is_inner is_inner c.mul-square.ensures in
    c.mul-6.ensures
    ∙ products p (value c.mul-5.result) (inner * inner * (inner * inner) * (outer * outer))
    (value c.sub-second.result) second
    (product_of p (value c.mul-3.result) (value c.mul-4.result) (inner * inner * (inner * inner)) (outer * outer)
    (value c.mul-5.result)
    (product_of p (value c.mul-square.result) (value c.mul-square.result) (inner * inner) (inner * inner)
    (value c.mul-3.result) is_square is_square c.mul-3.ensures)
    (product_of p (value c.mul-outer.result) (value c.mul-outer.result) outer outer
    (value c.mul-4.result) is_outer is_outer
    c.mul-4.ensures) c.mul-5.ensures) is_second
    ∙ ap (λ n. n % p) (telling_is p minus_one_root tangent_slope (coordinates_of c.args.x c.args.y))
