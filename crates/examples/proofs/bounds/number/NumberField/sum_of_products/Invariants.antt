use Rattle.std.proofs.Common.{◌≡◌, ◌%◌, map, take}
use Rattle.ark_groups.specs.Field.{dot_product}
use Rattle.examples.proofs.bounds.number.NumberField.sum_of_products.Given as goal

-- the sum of the products up to here
abbrev pub invariant-loop-i : goal.invariant-loop-i
invariant-loop-i g l =
    l.sum.value ≡ dot_product (take l.i (map (λ x. x.0.value) l.xs)) (map (λ x. x.0.value) l.ys) % g.M.Modulus.P
