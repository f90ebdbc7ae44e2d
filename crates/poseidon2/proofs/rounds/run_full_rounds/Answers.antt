use Rattle.std.proofs.Common.{◌<◌, length, map, arith}
use Rattle.std.proofs.lemmas.List.{length-map}
use Rattle.ark_sponge.proofs.Rows.{row_read}
use Rattle.poseidon2.specs.Matrices.{external_matrix}
use Rattle.poseidon2.proofs.RoundRuns.{full-more}
use Rattle.poseidon2.proofs.rounds.run_full_rounds.Goals as goal

pub loop-row-preserved : goal.loop-row-preserved
loop-row-preserved g c =
    let f = g.F.Valued.value in
    let p = g.F.Field.MODULUS in
    let rows = c.args.rows.now in
    let i = c.loop-row.row-index in
    let row = c.deref.result.now in
    let in_rows : i < length rows = omega arith in
    let external = external_matrix g.B.BlockMatrix.matrix (length c.args.state.now) in
    rw (
      c.external_layer.ensures,
      c.apply_images.ensures,
      c.loop-row.invariant,
      c.apply_images.auto.state,
      c.loop-row.auto.state,
    )
    (full-more p (g.S.SBox.image c.args.alpha) external (map (λ row. map f row.items) rows) (map f c.args.state.now)
    (map f row) i (rw length-map in_rows)
    (row_read f p (λ v. v.items) rows i _ row in_rows c.row-item.is c.deref.ensures.value))

pub external_layer-requires : goal.external_layer-requires
external_layer-requires g c = rw (c.apply_images.auto.state, c.loop-row.auto.state) c.requires.width
