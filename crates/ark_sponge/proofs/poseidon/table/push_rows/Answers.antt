use Rattle.std.proofs.Common.{◌≡◌, ◌<◌, ◌++◌, [], ◌∷◌, length, get_or, map, take, sym, ap, ◌∙◌, arith}
use Rattle.std.specs.List.{flat_map}
use Rattle.std.proofs.Math.ListN.{length-map}
use Rattle.std.proofs.lemmas.List.{map-append, flat_map_more, take_more}
use Rattle.ark_base.specs.Digits.{itself}
use Rattle.ark_sponge.proofs.Rows.{row_read}
use Rattle.ark_sponge.proofs.poseidon.table.push_rows.Goals as goal

pub loop-row-preserved : goal.loop-row-preserved
loop-row-preserved g c =
    let f = g.F.Valued.value in
    let i = c.loop-row.row-index in
    let rows = c.args.rows.now in
    let row = c.deref.result.now in
    let lists = map (λ row. map f row.items) rows in
    let within : i < length rows = omega arith in
    let is_row : map f row ≡ get_or lists i (map f row) =
    row_read f g.F.Field.MODULUS (λ v. v.items) rows i c.row-item.result row within c.row-item.is
    c.deref.ensures.value in
    ap (map f) c.in_ok-extend_from_slice.ensures.items
    ∙ map-append f c.loop-row.list.items row
    ∙ ap (λ t. t ++ map f row) c.loop-row.invariant
    ∙ flat_map_more itself (map f c.args.list.now.items) (take i lists) (map f row)
    ∙ ap (λ r. map f c.args.list.now.items ++ flat_map itself (take i lists ++ r ∷ [])) is_row
    ∙ ap (λ t. map f c.args.list.now.items ++ flat_map itself t) (sym (take_more lists i (map f row)
    (rw length-map within)))
