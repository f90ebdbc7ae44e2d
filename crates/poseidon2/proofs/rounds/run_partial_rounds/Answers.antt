use Rattle.std.proofs.Common.{◌<◌, length, map, arith}
use Rattle.std.proofs.lemmas.List.{length-map}
use Rattle.ark_sponge.proofs.Rows.{read}
use Rattle.poseidon2.specs.Matrices.{internal_matrix}
use Rattle.poseidon2.proofs.RoundRuns.{partial-more}
use Rattle.poseidon2.proofs.rounds.run_partial_rounds.Goals as goal

pub loop-constant-preserved : goal.loop-constant-preserved
loop-constant-preserved g c =
    let f = g.F.Valued.value in
    let constants = c.args.constants.now in
    let i = c.loop-constant.constant-index in
    let within : i < length constants = omega arith in
    let constant = c.constant-item.result in
    rw (c.apply_partial_round.ensures, c.loop-constant.invariant)
    (partial-more g.F.Field.MODULUS (g.S.SBox.image c.args.alpha) (internal_matrix (map f c.args.diagonal.now))
    (map f constants) (map f c.args.state.now) i (f constant) (rw length-map within)
    (read f constants i constant within c.constant-item.is))
