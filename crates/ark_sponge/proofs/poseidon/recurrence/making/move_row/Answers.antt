use Rattle.std.proofs.Common.{◌<◌, length, map, drop, ap, sym, ◌∙◌, arith}
use Rattle.std.proofs.lemmas.List.{length-map}
use Rattle.ark_sponge.specs.Permutation.{matrix_product}
use Rattle.ark_sponge.proofs.Loops.{split_head, head_none}
use Rattle.ark_sponge.proofs.Recurrences.{moves_one}
use Rattle.ark_sponge.proofs.poseidon.recurrence.making.move_row.Goals as goal

pub returns-clause-moved : goal.returns-clause-moved
returns-clause-moved g c =
    let f = g.F.Valued.value in
    let p = g.F.Field.MODULUS in
    let mds = map (λ row. map f row.items) c.args.mds.now in
    let sum = c.add_row.new.state in
    let some : 0 < length sum = omega arith in
    moves_one p mds (map f c.args.row.now) (map f c.args.offset.now) (f c.index-offset-0.result)
    (drop 1 (map f sum)) (map f c.copy_from_slice.new.self) (rw length-map c.requires.some)
    (omega (arith, length-map c.args.row.now f, length-map c.args.mds.now (λ row. map f row.items), c.requires.row))
    (omega (
      arith,
      length-map c.args.offset.now f,
      length-map c.args.mds.now (λ row. map f row.items),
      c.requires.offset,
    ))
    (sym c.add_row.ensures ∙ split_head f sum c.index-offset-0.result some c.index-offset-0.is)
    (ap (map f) c.copy_from_slice.ensures.after ∙ c.multiply.ensures.value
    ∙ ap (matrix_product p mds) (head_none f sum c.zero.result some c.zero.ensures))
