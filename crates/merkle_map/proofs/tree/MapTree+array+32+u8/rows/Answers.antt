use Rattle.std.proofs.Common.{Err, Ok, sym, ap, ◌∙◌}
use Rattle.ark_base.proofs.Refusals.{passed_on}
use Rattle.merkle_map.specs.Bytes.{itself}
use Rattle.merkle_map.specs.Parts.{top_shape}
use Rattle.merkle_map.specs.Tree.{shape_digest}
use Rattle.merkle_map.proofs.Hashed.{digest-behind}
use Rattle.merkle_map.proofs.tree.MapTree+array+32+u8.rows.Goals as goal

pub push_rows_of_top-requires : goal.push_rows_of_top-requires
push_rows_of_top-requires g c = c.self.invariant.1 (g.H.MapViews.hashes c.args.hasher.now)

pub returns-in_err-digest-clause-digest : goal.returns-in_err-digest-clause-digest
returns-in_err-digest-clause-digest g c =
    let h = g.H.MapViews.hashes c.args.hasher.now in
    passed_on _ _ c.from_residual.result c.in_err-digest.field-0.0 c.from_residual.ensures.1 c.in_err-digest.ensures
    (λ why. ap (shape_digest h) (sym c.self.view_is)
    ∙ digest-behind h (top_shape itself c.self.inside.top) c.new-rows.result.items (Err c.in_err-digest.field-0.0) why)

pub returns-clause-digest : goal.returns-clause-digest
returns-clause-digest g c =
    let h = g.H.MapViews.hashes c.args.hasher.now in
    ap (shape_digest h) (sym c.self.view_is)
    ∙ digest-behind h (top_shape itself c.self.inside.top) c.new-rows.result.items
    (Ok (c.in_ok-digest.digest, c.push_rows_of_top.new.rows.items)) c.in_ok-digest.ensures
