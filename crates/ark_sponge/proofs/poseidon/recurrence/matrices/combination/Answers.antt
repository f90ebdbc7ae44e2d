use Rattle.std.proofs.Common.{◌%◌, length, drop, map, ap, ◌∙◌, sym, arith}
use Rattle.std.proofs.lemmas.List.{take_at}
use Rattle.ark_groups.specs.Field.{dot_product}
use Rattle.ark_sponge.proofs.Zeros.{all_zero}
use Rattle.ark_sponge.proofs.Products.{combination_of}
use Rattle.ark_sponge.proofs.poseidon.recurrence.matrices.combination.Goals as goal

pub returns-clause-value : goal.returns-clause-value
returns-clause-value g c xs =
    let f = g.F.Valued.value in
    let p = g.F.Field.MODULUS in
    let new = c.add_combination.new.sum in
    let items = c.in_ok-sum.ensures.items_if_clones_equal (λ y k. sym (g.met.F.Field.clones _ _ k)) in
    let zeros = ap (map f) (c.deref_mut-2.ensures.value ∙ items)
    ∙ all_zero f c.args.width c.zero-2.result c.zero-2.ensures in
    ap (λ t. dot_product (map f t) xs % p) (take_at new (drop (length new) c.in_ok-sum.sum.items) c.in_ok-sum.sum.len
    (omega (arith, c.add_combination.ensures.length, c.deref_mut-2.ensures.len)))
    ∙ combination_of p c.args.width (map f c.args.factors.now) (map (λ row. map f row.items) c.args.rows.now) _
    (map f new) zeros c.add_combination.ensures.value xs
