use Rattle.std.proofs.Common.{◌≡◌, map, take}
use Rattle.ark_sponge.specs.Permutation.{matrix_product}
use Rattle.ark_sponge.proofs.poseidon.permutation.multiply.Given as goal

abbrev pub invariant-loop-i : goal.invariant-loop-i
invariant-loop-i g l =
    let f = g.F.Field in
    map g.F.Valued.value (take l.i l.product) ≡ matrix_product f.MODULUS
    (take l.i (map (λ row. map g.F.Valued.value row.items) l.mds)) (map g.F.Valued.value l.state)
