use Rattle.std.proofs.Common.{◌≡◌, ◌++◌, map}
use Rattle.std.specs.List.{range_with_len}
use Rattle.ark_groups.specs.Group.{times}
use Rattle.jubjub.specs.Elements.{jubjub}
use Rattle.jubjub.specs.Sums.{total}
use Rattle.jubjub.proofs.element.sums.table.push_multiples.Given as goal

-- the multiples by the first numbers were put, the last one of them is at hand
abbrev pub invariant-loop : goal.invariant-loop
invariant-loop l =
    (map total l.sums.items ≡ map total l.fn.sums.items
    ++ map (λ k. times jubjub k (total l.unit)) (range_with_len 1 l.counter))
    × (total l.last ≡ times jubjub l.counter (total l.unit))
