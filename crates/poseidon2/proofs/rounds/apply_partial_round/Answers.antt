use Rattle.std.proofs.Common.{◌+◌, ◌%◌, refl, ap, ◌∙◌}
use Rattle.poseidon2.proofs.RoundRuns.{first-image}
use Rattle.poseidon2.proofs.rounds.apply_partial_round.Goals as goal

pub returns : goal.returns
returns g c =
    let f = g.F.Valued.value in
    let image = g.S.SBox.image c.args.alpha in
    let p = g.F.Field.MODULUS in
    let sum = (f c.index-state-0.result + f c.args.constant) % p in
    let first = ◌∙◌ {b = image (f c.add.result)} c.apply.ensures (ap image {y = sum} c.add.ensures) in
    rw (
      c.internal_layer.ensures,
      first-image p image f c.args.state.now (f c.args.constant) c.index-state-0.result c.apply.result
          c.requires.some c.index-state-0.is first,
    ) refl
