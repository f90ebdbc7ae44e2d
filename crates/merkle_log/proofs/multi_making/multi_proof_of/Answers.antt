use Rattle.std.proofs.Common.{map, Ok, ap, arith, ◌∙◌}
use Rattle.std.proofs.lemmas.List.{take_all}
use Rattle.merkle_log.specs.Stored.{row_at}
use Rattle.merkle_log.proofs.Givens.{given_on}
use Rattle.merkle_log.proofs.MultiCounts.{around-levels}
use Rattle.merkle_log.proofs.MultiMaking.{proof-behind}
use Rattle.merkle_log.proofs.multi_making.multi_proof_of.Goals as goal

pub put_around-requires-clause-room : goal.put_around-requires-clause-room
put_around-requires-clause-room g c =
    omega (
      arith,
      c.requires.room,
      around-levels c.args.size c.levels_above.result c.args.indexes.now
          c.levels_above.ensures.covers,
    )

pub returns-in_err-put_around : goal.returns-in_err-put_around
returns-in_err-put_around g c = λ stored empty.
    given_on _ _ _ c.from_residual.result c.in_err-put_around.field-0.0 c.from_residual.ensures.1
    (c.in_err-put_around.ensures.put stored empty)
    (λ refused. proof-behind (g.H.NodeHasher.hash c.args.hasher.now) empty (row_at (g.R.Rows.stored
    c.args.rows.now) 0) c.args.size c.levels_above.result c.args.indexes.now c.requires.within
    c.levels_above.ensures.covers c.requires.indexes ∙ refused)

pub returns : goal.returns
returns g c = λ stored empty.
    proof-behind (g.H.NodeHasher.hash c.args.hasher.now) empty (row_at (g.R.Rows.stored c.args.rows.now) 0)
    c.args.size c.levels_above.result c.args.indexes.now c.requires.within c.levels_above.ensures.covers
    c.requires.indexes ∙ c.in_ok-put_around.ensures.put stored empty
    ∙ ap (λ l. Ok (map g.D.Numbered.numbers l)) (take_all c.in_ok-put_around.field-0 c.put_around.new.proof (omega (
      arith,
      c.requires.room,
      c.in_ok-put_around.ensures.next,
      c.in_ok-put_around.ensures.long,
      around-levels c.args.size
          c.levels_above.result c.args.indexes.now c.levels_above.ensures.covers,
    )))
