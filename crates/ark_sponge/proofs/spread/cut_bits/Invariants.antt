use Rattle.std.proofs.Common.{◌≡◌, ◌++◌, length, take, drop, map}
use Rattle.ark_sponge.specs.Sizes.{cut_numbers}
use Rattle.ark_sponge.proofs.spread.cut_bits.Given as goal

-- the elements that are put, and those of the bits that are left, are all
abbrev pub invariant-loop-i : goal.invariant-loop-i
invariant-loop-i g l =
    let f = g.F.Field in
    let cut = cut_numbers f.MODULUS f.MODULUS_BIT_SIZE in
    (length l.out ≡ length l.sizes) × (map g.F.Valued.value (take l.i l.out) ++ cut (drop l.i l.sizes) l.rest
    ≡ cut l.sizes l.bits)
