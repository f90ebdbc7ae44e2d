use Rattle.std.proofs.Common.{fold, map, ap, ◌∙◌}
use Rattle.ark_sponge.specs.Permutation.{sums, matrix_product}
use Rattle.ark_sponge.specs.Recurrence.{on_tail, short_round, short_rounds}
use Rattle.ark_sponge.proofs.poseidon.recurrence.Recurrence.apply.Goals as goal

pub returns : goal.returns
unfolding short_rounds
returns g c =
    let f = g.F.Valued.value in
    let p = g.F.Field.MODULUS in
    let i = c.self.inside in
    let back = map (λ row. map f row.items) i.back.items in
    let step = short_round p (g.S.SBox.image c.args.alpha) (map f i.output.items) (map f i.feedback.items) in
    let start = rw c.deref.ensures.value at c.change_tail.ensures.value in
    let turned = rw (c.deref-2.ensures.value, c.deref-3.ensures.value, c.deref-4.ensures.value) at
    c.turn_all.ensures.value in
    let end = rw c.deref-5.ensures.value at c.change_tail-2.ensures.value in
    let whole = rw c.deref-6.ensures.value at c.add_row.ensures in
    rw (← c.self.view_is) (whole ∙ ap (λ s. sums p s (map f i.offset.items))
    (end ∙ ap (λ s. on_tail (matrix_product p back) s)
    (turned ∙ ap (λ s. fold step s (map f i.constants.items)) start)))
