use Rattle.std.proofs.Common.{Err, Ok, sym, ap, ◌∙◌}
use Rattle.ark_base.proofs.Refusals.{passed_on}
use Rattle.merkle_map.specs.Bytes.{itself}
use Rattle.merkle_map.specs.Parts.{top_shape}
use Rattle.merkle_map.specs.Tree.{shape_digest}
use Rattle.merkle_map.proofs.Hashed.{digest-behind, rows-refused}
use Rattle.merkle_map.proofs.top.fill_rows.Goals as goal

pub returns-in_err-fill_top-clause-rows : goal.returns-in_err-fill_top-clause-rows
returns-in_err-fill_top-clause-rows g c =
    let h = g.H.MapViews.hashes c.args.hasher.now in
    passed_on _ _ c.from_residual.result c.in_err-fill_top.field-0.0 c.from_residual.ensures.1
    c.in_err-fill_top.ensures.digest (rows-refused h (top_shape itself c.args.top.now) c.in_err-fill_top.field-0.0)

pub returns-in_err-digest-clause-digest : goal.returns-in_err-digest-clause-digest
returns-in_err-digest-clause-digest g c =
    let h = g.H.MapViews.hashes c.args.hasher.now in
    passed_on _ _ c.from_residual-in_err-digest.result c.in_err-digest.field-0.0
    c.from_residual-in_err-digest.ensures.1 c.in_err-digest.ensures
    (λ why. ap (shape_digest h) (sym c.in_ok-fill_top.ensures.same)
    ∙ digest-behind h (top_shape itself c.fill_top.new.top) c.new-rows.result.items (Err c.in_err-digest.field-0.0) why)

pub returns-clause-digest : goal.returns-clause-digest
returns-clause-digest g c =
    let h = g.H.MapViews.hashes c.args.hasher.now in
    ap (shape_digest h) (sym c.in_ok-fill_top.ensures.same)
    ∙ digest-behind h (top_shape itself c.fill_top.new.top) c.new-rows.result.items
    (Ok (c.in_ok-digest.digest, c.push_rows_of_top.new.rows.items)) c.in_ok-digest.ensures
