use Rattle.std.proofs.Common.{◌≡◌, map, take}
use Rattle.ark_sponge.specs.Permutation.{sums, front_images}
use Rattle.ark_sponge.proofs.poseidon.permutation.write_images.Given as goal

abbrev pub invariant-loop-i : goal.invariant-loop-i
invariant-loop-i g l =
    let f = g.F.Field in
    map g.F.Valued.value (take l.i l.out) ≡ take l.i (front_images (g.S.SBox.image l.alpha) l.count
    (sums f.MODULUS (map g.F.Valued.value l.state) (map g.F.Valued.value l.row)))
