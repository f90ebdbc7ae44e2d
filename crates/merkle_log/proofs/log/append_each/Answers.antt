use Rattle.std.proofs.Common.{◌≡◌, length, take, drop, ap, sym, ◌∙◌, inl, inr, arith}
use Rattle.std.proofs.lemmas.List.{length-drop, length-take-le}
use Rattle.std.proofs.lemmas.Result.{err_from_is_err_and}
use Rattle.ark_paths.specs.Root.{all_hashes}
use Rattle.ark_paths.specs.Rows.{digests_of}
use Rattle.ark_paths.proofs.Ahead.{so_far-run_refused}
use Rattle.ark_paths.proofs.ListOutcomes.{length-each}
use Rattle.merkle_log.specs.Rising.{left_of}
use Rattle.merkle_log.proofs.Growing.{AppendsAll, appends-none, appends-run, appends-refused, appends-all, laid-all}
use Rattle.merkle_log.proofs.RisenRows.{sizes-of}
use Rattle.merkle_log.proofs.log.append_each.Goals as goal

pub runs-init : goal.runs-init
runs-init g c = record {
  at = appends-none c.requires.whole c.requires.stored;
  counted = omega arith;
  fits = c.requires.fits;
}

pub runs-preserved : goal.runs-preserved
runs-preserved g c =
    let hash = (g.T.TreeHasher.hashes c.args.hasher.now).leaf in
    let digests = digests_of g.D.Numbered.numbers c.in_ok-made.made in
    let appended : AppendsAll (g.T.TreeHasher.hashes c.args.hasher.now).pair.upper c.runs.stored digests
    c.lay.new.self =
    laid-all _ _ _ (left_of g.D.Numbered.numbers c.in_ok-rows.rows.items) digests c.in_ok-rows.ensures.lowest
    c.in_ok-rows.ensures.hashed (rw (c.deref_mut.ensures.value) at c.in_ok-calls.ensures.laid)
    c.in_ok-calls.ensures.whole c.in_ok-calls.ensures.extends in
    record {
      at = appends-run c.min-count.result c.runs.invariant.at digests
          (ap (all_hashes hash) (sym c.part_of.ensures) ∙ c.in_ok-made.ensures) appended;
      counted = omega (arith, c.in_ok-calls.ensures.count, c.runs.invariant.counted);
      fits = c.in_ok-calls.ensures.fits;
    }

pub lay-requires : goal.lay-requires
lay-requires g c =
    let leaves = c.args.leaves.now in
    let numbers = g.D.Numbered.numbers in
    let count = c.min-count.result in
    let long : length (take count (drop c.runs.first leaves)) ≡ count =
    length-take-le count (drop c.runs.first leaves) (omega (arith, length-drop c.runs.first leaves)) in
    let made = length-each (g.T.TreeHasher.hashes c.args.hasher.now).leaf c.part_of.result.now
    (digests_of numbers c.in_ok-made.made) c.in_ok-made.ensures in
    rw (c.deref_mut.ensures.value) (sizes-of _ c.runs.stored (left_of numbers c.in_ok-rows.rows.items) count
    (ap length c.in_ok-rows.ensures.lowest ∙ made ∙ ap length c.part_of.ensures ∙ long)
    c.in_ok-rows.ensures.hashed)

pub returns-in_err-made-clause-refused : goal.returns-in_err-made-clause-refused
returns-in_err-made-clause-refused g c =
    let hash = (g.T.TreeHasher.hashes c.args.hasher.now).leaf in
    let result = err_from_is_err_and c.from_residual.result c.from_residual.ensures.1 in
    rw (result.1, result.2) (elim c.in_err-made.ensures [
      | inl memory ↦ inl memory
      | inr refused ↦ inr (inl (so_far-run_refused hash c.args.leaves.now c.runs.first _ _ c.runs.invariant.at.hashed _
          (ap (all_hashes hash) (sym c.part_of.ensures) ∙ refused)))
    ])

pub returns-in_err-rows-clause-refused : goal.returns-in_err-rows-clause-refused
returns-in_err-rows-clause-refused g c =
    let hash = (g.T.TreeHasher.hashes c.args.hasher.now).leaf in
    let result = err_from_is_err_and c.from_residual-in_err-rows.result c.from_residual-in_err-rows.ensures.1 in
    rw (result.1, result.2) (elim c.in_err-rows.ensures.refused [
      | inl memory ↦ inl memory
      | inr refused ↦ inr (inr (appends-refused c.min-count.result c.runs.invariant.at
          (digests_of g.D.Numbered.numbers c.in_ok-made.made)
          (ap (all_hashes hash) (sym c.part_of.ensures) ∙ c.in_ok-made.ensures) _ refused))
    ])

pub returns-clause-appended : goal.returns-clause-appended
returns-clause-appended g c = appends-all c.runs.invariant.at (omega arith)
