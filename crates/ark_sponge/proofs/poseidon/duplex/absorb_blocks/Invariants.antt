use Rattle.std.proofs.Common.{◌≡◌, ◌≤◌, map, length}
use Rattle.ark_sponge.specs.Permutation.{width, permutation}
use Rattle.ark_sponge.specs.Duplex.{state_absorbing}
use Rattle.ark_sponge.proofs.Blocks.{blocks_left}
use Rattle.ark_sponge.proofs.poseidon.duplex.absorb_blocks.Given as goal

abbrev pub invariant-loop-index : goal.invariant-loop-index
invariant-loop-index g l =
    let f = g.F.Field in
    let c = l.parameters in
    let permute = permutation f.MODULUS g.S.SBox.image c in
    record {
      so_far : blocks_left f.MODULUS c.rate c.capacity permute (map g.F.Valued.value l.state) l.index
          (map g.F.Valued.value l.rest)
          ≡ state_absorbing f.MODULUS c.rate c.capacity permute (map g.F.Valued.value l.fn.state) l.start
          (map g.F.Valued.value l.elements);
      within : l.index ≤ c.rate;
      state : length l.state ≡ width c;
      scratch : length l.scratch ≡ width c;
    }

abbrev pub decreases-loop-index : goal.decreases-loop-index
decreases-loop-index g l = length l.rest
