use Rattle.std.proofs.Common.{◌≡◌, eqb, get_or, sym, ◌∙◌, length, rules, tests, arith}
use Rattle.std.specs.List.{list_all}
use Rattle.std.proofs.lemmas.Iterator.{YieldsList-from_slice}
use Rattle.std.proofs.lemmas.Iterator.Search.{all_from_yields_List}
use Rattle.ark_sponge.proofs.Matrices.{is_matrix-count, list_all-All}
use Rattle.ark_sponge.proofs.poseidon.config.is_matrix.Goals as goal

each : (g : _) (c : goal.After-all g) → c.all.result ≡ list_all (λ row. eqb (length row.items) c.args.len)
    c.args.rows.now
each g c = all_from_yields_List (λ row. eqb (length row.items) c.args.len) _ _ c.all.result c.all.ensures.ran
    (YieldsList-from_slice c.args.rows.now cc) (λ x b q k. search (rules, tests))

pub returns-then-rows-count-clause-test : goal.returns-then-rows-count-clause-test
returns-then-rows-count-clause-test g c =
    is_matrix-count g.F.Valued.value (λ row. row.items) c.args.count c.args.len c.args.rows.now c.all.result
    c.if-rows-count.true (each g c)

pub returns-then-rows-count-clause-rows : goal.returns-then-rows-count-clause-rows
returns-then-rows-count-clause-rows g c holds k d within =
    let row = get_or c.args.rows.now k d in
    omega (
      arith,
      row.ok.0,
      list_all-All g.F.Valued.value (λ row. row.items) c.args.count c.args.len c.args.rows.now
          (sym (each g c) ∙ holds) k d within,
    )
