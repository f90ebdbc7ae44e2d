use Rattle.std.proofs.Common.{Ok, ap, sym, ◌∙◌, subst}
use Rattle.merkle_map.specs.Bytes.{itself}
use Rattle.merkle_map.specs.Kept.{IsFor, IsKept}
use Rattle.merkle_map.specs.Parts.{shape}
use Rattle.merkle_map.specs.Tree.{shape_digest}
use Rattle.merkle_map.proofs.Hashed.{digest-behind, kept-pair}
use Rattle.merkle_map.proofs.rows.+push_tree_rows.Goals as goal

pub pair_unless_kept-requires : goal.pair_unless_kept-requires
pair_unless_kept-requires g t c =
    let h = g.H.MapViews.hashes c.args.hasher.now in
    let sides = c.in-Fork.sides.value in
    let l = c.in_ok-l-in-Fork.l in
    let r = c.in_ok-r-in-Fork.r in
    let rows = c.push_tree_rows.new.rows.items in
    let on_left = ap (λ s. shape_digest h (shape itself s.left)) (sym c.deref-in-Fork.ensures)
    ∙ digest-behind h (shape itself c.deref-in-Fork.result.now.left) c.args.rows.now.items (Ok (l, rows))
    c.in_ok-l-in-Fork.ensures in
    let on_right = ap (λ s. shape_digest h (shape itself s.right)) (sym c.deref-in-Fork-2.ensures)
    ∙ digest-behind h (shape itself c.deref-in-Fork-2.result.now.right) rows
    (Ok (r, c.push_tree_rows-in-Fork.new.rows.items)) c.in_ok-r-in-Fork.ensures in
    let kept = subst (IsKept itself h) c.in-Fork.is c.requires in
    subst (λ s. IsFor itself (h.pair l r) s.digest) (sym c.deref-in-Fork-3.ensures)
    (kept-pair h (shape itself sides.left) (shape itself sides.right) l r sides.digest on_left on_right kept.0)
