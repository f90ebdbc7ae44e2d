use Rattle.std.proofs.Common.{◌<◌, length, map, ◌∙◌, sym, arith}
use Rattle.std.proofs.Math.Nat.{zero-mod}
use Rattle.std.proofs.lemmas.List.{length-map}
use Rattle.ark_sponge.proofs.Rows.{read}
use Rattle.poseidon2.proofs.Ones.{sum-more}
use Rattle.poseidon2.proofs.layers.total.Goals as goal

pub loop-x-init : goal.loop-x-init
loop-x-init g c = c.zero-all.ensures ∙ sym (zero-mod g.F.Field.MODULUS)

pub loop-x-preserved : goal.loop-x-preserved
loop-x-preserved g c =
    let f = g.F.Valued.value in
    let xs = c.args.state.now in
    let i = c.loop-x.x-index in
    let within : i < length xs = omega arith in
    sum-more g.F.Field.MODULUS (map f xs) i _ _ _ (rw length-map within) c.loop-x.invariant
    (read f xs i c.x-item.result within c.x-item.is) c.add-all.ensures
