use Rattle.std.proofs.Common.{◌≡◌, ◌≤◌, ◌<◌, ◌+◌, ◌-◌, map, take, length}
use Rattle.ark_sponge.specs.Permutation.{width, permutation}
use Rattle.ark_sponge.specs.Duplex.{numbers_from_place}
use Rattle.ark_sponge.proofs.Squeezes.{IsAt}
use Rattle.ark_sponge.proofs.poseidon.duplex.squeeze_blocks.Given as goal

abbrev pub invariant-loop-given : goal.invariant-loop-given
invariant-loop-given g l =
    let f = g.F.Field in
    let c = l.parameters in
    let permute = permutation f.MODULUS g.S.SBox.image c in
    let init = map g.F.Valued.value l.fn.state in
    record {
      at : IsAt c.rate permute init (l.start + l.given) (map g.F.Valued.value l.state) l.index;
      numbers : map g.F.Valued.value (take l.given l.out) ≡ numbers_from_place c.rate c.capacity permute init
          l.start l.given;
      begun : 0 < l.given → 0 < l.index;
      within : l.given ≤ length l.out;
      state : length l.state ≡ width c;
      scratch : length l.scratch ≡ width c;
      out : length l.out ≡ length l.fn.out;
    }

abbrev pub decreases-loop-given : goal.decreases-loop-given
decreases-loop-given g l = length l.out - l.given
