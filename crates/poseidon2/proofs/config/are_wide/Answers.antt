use Rattle.std.proofs.Common.{◌≡◌, eqb, get_or, sym, ◌∙◌, length, rules, tests, arith}
use Rattle.std.specs.List.{list_all}
use Rattle.std.proofs.lemmas.Iterator.{YieldsList-from_slice}
use Rattle.std.proofs.lemmas.Iterator.Search.{all_from_yields_List}
use Rattle.ark_sponge.proofs.Matrices.{list_all-All}
use Rattle.poseidon2.proofs.Shapes.{wide-numbers}
use Rattle.poseidon2.proofs.config.are_wide.Goals as goal

each : (g : _) (c : goal.After-all g) → c.all.result ≡ list_all (λ row. eqb (length row.items) c.args.width)
    c.args.rows.now
each g c = all_from_yields_List (λ row. eqb (length row.items) c.args.width) _ _ c.all.result c.all.ensures.ran
    (YieldsList-from_slice c.args.rows.now cc) (λ x b q k. search (rules, tests))

pub returns-clause-test : goal.returns-clause-test
returns-clause-test g c =
    each g c ∙ sym (wide-numbers g.F.Valued.value (λ row. row.items) c.args.width c.args.rows.now)

pub returns-clause-rows : goal.returns-clause-rows
returns-clause-rows g c holds k d within =
    let row = get_or c.args.rows.now k d in
    omega (
      arith,
      row.ok.0,
      list_all-All g.F.Valued.value (λ row. row.items) c.args.width c.args.width c.args.rows.now
          (sym (each g c) ∙ holds) k d within,
    )
