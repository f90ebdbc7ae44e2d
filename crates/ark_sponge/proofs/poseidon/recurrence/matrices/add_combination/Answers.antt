use Rattle.std.proofs.Common.{ℕ, ◌<◌, ◌*◌, ◌%◌, length, map, ap, ◌∙◌, arith}
use Rattle.std.proofs.lemmas.List.{length-map}
use Rattle.ark_sponge.proofs.Rows.{read}
use Rattle.ark_sponge.proofs.Loops.{row_at}
use Rattle.ark_sponge.proofs.Products.{sums_up_to-none, sums_up_to-more, sums_up_to-all}
use Rattle.ark_sponge.proofs.poseidon.recurrence.matrices.add_combination.Goals as goal

pub loop-i-init : goal.loop-i-init
loop-i-init g c = sums_up_to-none g.F.Field.MODULUS _ _ _

pub loop-i-preserved : goal.loop-i-preserved
loop-i-preserved g c =
    let f = g.F.Valued.value in
    let p = g.F.Field.MODULUS in
    let factors = c.args.factors.now in
    let rows = c.args.rows.now in
    let i = c.loop-i.i in
    let row = c.deref.result.now in
    let factor = c.index-factors-i.result in
    let scaled : ℕ → ℕ = λ x. (x * f factor) % p in
    let in_factors : i < length factors = omega arith in
    let in_rows : i < length rows = omega (arith, in_factors, c.requires.factors) in
    sums_up_to-more p (map f factors) (map (λ v. map f v.items) rows)
    (omega (arith, length-map factors f, length-map rows (λ v. map f v.items), c.requires.factors)) i (f factor)
    (map f c.args.sum.now) (map f c.loop-i.sum) (map f row) (map f c.scale.new.out) _ (rw length-map in_factors)
    (read f factors i factor in_factors c.index-factors-i.is)
    (ap (map f) c.deref.ensures.value ∙ row_at f (λ v. v.items) rows i c.index-rows-i.result in_rows c.index-rows-i.is)
    (omega (
      arith,
      ap length c.scale.ensures.value,
      length-map row f,
      length-map (map f row) scaled,
      length-map c.scale.new.out f,
      length-map c.loop-i.sum f,
    )) c.loop-i.invariant c.scale.ensures.value c.add_row.ensures

pub returns-clause-value : goal.returns-clause-value
returns-clause-value g c =
    let f = g.F.Valued.value in
    sums_up_to-all g.F.Field.MODULUS (map f c.args.factors.now) (map (λ v. map f v.items) c.args.rows.now) c.loop-i.i
    (map f c.args.sum.now) (map f c.loop-i.sum) (rw length-map (omega arith)) (rw length-map (omega arith))
    c.loop-i.invariant
