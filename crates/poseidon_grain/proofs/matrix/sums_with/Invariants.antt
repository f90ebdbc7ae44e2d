use Rattle.std.proofs.Common.{◌≡◌, map, take}
use Rattle.poseidon_grain.specs.Constants.{sums_with}
use Rattle.poseidon_grain.proofs.matrix.sums_with.Given as goal

abbrev pub invariant-loop-y : goal.invariant-loop-y
invariant-loop-y g l =
    map g.F.Valued.value l.sums.items
    ≡ sums_with g.F.Field.MODULUS (g.F.Valued.value l.x)
    (map g.F.Valued.value (take l.y-index l.ys))
