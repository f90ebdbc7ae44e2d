use Rattle.std.proofs.Common.{◌≡◌, map, take}
use Rattle.ark_sponge.specs.Permutation.{poseidon_rounds}
use Rattle.ark_sponge.proofs.poseidon.permutation.apply_rounds.Given as goal

abbrev pub invariant-loop-row : goal.invariant-loop-row
invariant-loop-row g l =
    let f = g.F.Field in
    map g.F.Valued.value l.state
    ≡ poseidon_rounds f.MODULUS (g.S.SBox.image l.alpha) (map (λ row. map g.F.Valued.value row.items) l.mds) l.count
    (take l.row-index (map (λ row. map g.F.Valued.value row.items) l.constants))
    (map g.F.Valued.value l.initial.state)
