use Rattle.std.proofs.Common.{◌<◌, length, map, ap₂, sym, ◌∙◌, arith}
use Rattle.std.proofs.lemmas.List.{length-map}
use Rattle.std.proofs.lemmas.List.Sums.{fold_more}
use Rattle.ark_sponge.specs.Recurrence.{short_round}
use Rattle.ark_sponge.proofs.Rows.{read}
use Rattle.ark_sponge.proofs.poseidon.recurrence.turn_all.Goals as goal

pub loop-constant-preserved : goal.loop-constant-preserved
loop-constant-preserved g c =
    let f = g.F.Valued.value in
    let constants = c.args.constants.now in
    let i = c.loop-constant.constant-index in
    let within : i < length constants = omega arith in
    let step = short_round g.F.Field.MODULUS (g.S.SBox.image c.args.alpha) (map f c.args.output.now)
    (map f c.args.feedback.now) in
    c.turn.ensures.value
    ∙ ap₂ step c.loop-constant.invariant (read f constants i c.constant-item.result within c.constant-item.is)
    ∙ sym (fold_more step (map f c.args.state.now) (map f constants) i 0 (rw length-map within))
