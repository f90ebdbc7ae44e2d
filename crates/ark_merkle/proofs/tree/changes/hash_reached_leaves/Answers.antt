use Rattle.std.proofs.Common.{◌∙◌, ◌++◌, length, ap, sym, arith, List, ℕ}
use Rattle.std.proofs.lemmas.List.{length-map}
use Rattle.std.specs.List.{zip}
use Rattle.ark_base.proofs.Refusals.{passed_on}
use Rattle.ark_crh.specs.Ahead.{lent_couple, lent_couples, of_couple}
use Rattle.ark_paths.specs.Root.{all_hashes}
use Rattle.ark_paths.specs.Rows.{digests_of}
use Rattle.ark_paths.proofs.ListOutcomes.{length-each}
use Rattle.ark_merkle.specs.Changed.{seen_changes}
use Rattle.ark_merkle.proofs.HashedCouples.{couples-run, couples-run_refused, couples-all}
use Rattle.ark_merkle.proofs.tree.changes.hash_reached_leaves.Goals as goal

pub returns-in_err-made : goal.returns-in_err-made
returns-in_err-made g c =
    let hash = of_couple (g.T.TreeHasher.hashes c.args.hasher.now).pair.bottom in
    let numbers = g.L.Numbered.numbers in
    passed_on _ _ c.from_residual-in_err-made.result _ c.from_residual-in_err-made.ensures.1 c.in_err-made.ensures
    (λ is. couples-run_refused c.runs.invariant c.in_ok-run.run'.behind c.in_ok-run.run'.places.items
    (lent_couples numbers c.in_ok-run.run'.couples.items) c.in_ok-run.ensures.reached
    (omega (arith, c.in_ok-run.ensures.places, length-map c.in_ok-run.run'.couples.items (lent_couple numbers))) _
    (ap (λ cs. all_hashes hash (lent_couples numbers cs)) (sym c.deref.ensures.value) ∙ is))

pub push_changes-requires : goal.push_changes-requires
push_changes-requires g c =
    let hash = of_couple (g.T.TreeHasher.hashes c.args.hasher.now).pair.bottom in
    let numbers = g.L.Numbered.numbers in
    omega (
      arith,
      c.in_ok-run.ensures.places,
      length-map c.in_ok-made.made.items g.D.Numbered.numbers,
      length-map c.deref.result.now (lent_couple numbers),
      ap length c.deref.ensures.value,
      ap length c.deref-in-runs.ensures.value,
      length-each hash (lent_couples numbers c.deref.result.now) _ c.in_ok-made.ensures,
    )

pub runs-preserved : goal.runs-preserved
runs-preserved g c =
    let hash = of_couple (g.T.TreeHasher.hashes c.args.hasher.now).pair.bottom in
    let numbers = g.L.Numbered.numbers in
    let digests = digests_of g.D.Numbered.numbers c.in_ok-made.made in
    couples-run c.runs.invariant c.in_ok-run.run'.behind c.in_ok-run.run'.places.items
    (lent_couples numbers c.in_ok-run.run'.couples.items) c.in_ok-run.ensures.reached
    (omega (arith, c.in_ok-run.ensures.places, length-map c.in_ok-run.run'.couples.items (lent_couple numbers)))
    digests _ c.in_ok-run.ensures.inside
    (ap (λ cs. all_hashes hash (lent_couples numbers cs)) (sym c.deref.ensures.value) ∙ c.in_ok-made.ensures)
    (c.in_ok-push_changes.ensures.changes
    ∙ ap (λ (ps : List ℕ). seen_changes g.D.Numbered.numbers c.runs.above.items ++ zip ps digests)
    c.deref-in-runs.ensures.value)

pub returns : goal.returns
returns g c = couples-all c.runs.invariant c.runs-test.false
