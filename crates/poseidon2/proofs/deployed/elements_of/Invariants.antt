use Rattle.std.proofs.Common.{◌≡◌, ◌%◌, map, take}
use Rattle.poseidon2.proofs.deployed.elements_of.Given as goal

abbrev pub invariant-loop-number : goal.invariant-loop-number
invariant-loop-number g l =
    map g.F.Valued.value l.list.items ≡ map (λ n. n % g.F.Field.MODULUS) (take l.number-index l.numbers)
