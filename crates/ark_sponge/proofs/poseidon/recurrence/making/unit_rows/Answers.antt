use Rattle.std.proofs.Common.{set, map, ap, ap₂, sym, ◌∙◌}
use Rattle.std.proofs.lemmas.List.{map_push, map-set}
use Rattle.ark_sponge.proofs.Zeros.{all_zero}
use Rattle.ark_sponge.proofs.Products.{units_up_to-none, units_up_to-more, units_up_to-all}
use Rattle.ark_sponge.proofs.poseidon.recurrence.making.unit_rows.Goals as goal

pub loop-i-init : goal.loop-i-init
loop-i-init g c = rw c.new-rows.ensures.items (units_up_to-none g.F.Field.MODULUS c.args.n)

pub loop-i-preserved : goal.loop-i-preserved
loop-i-preserved g c =
    let f = g.F.Valued.value in
    let n = c.args.n in
    let items = c.in_ok-row.ensures.items_if_clones_equal (λ y k. sym (g.met.F.Field.clones _ _ k)) in
    let row = map-set f c.in_ok-row.row.items c.loop-i.i c.one.result
    ∙ ap₂ (λ ts m. set ts c.loop-i.i m) (ap (map f) items ∙ all_zero f n c.zero.result c.zero.ensures) c.one.ensures in
    let pushed = ap (map (λ row. map f row.items)) c.in_ok-push.ensures.items
    ∙ map_push (λ row. map f row.items) c.loop-i.rows.items _ in
    rw pushed (units_up_to-more g.F.Field.MODULUS n c.loop-i.i _ _ c.loop-i-test.true row c.loop-i.invariant)

pub returns : goal.returns
returns g c = units_up_to-all g.F.Field.MODULUS c.args.n c.loop-i.i _ c.loop-i-test.false c.loop-i.invariant
