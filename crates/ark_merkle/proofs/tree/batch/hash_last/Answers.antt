use Rattle.std.proofs.Common.{◌≡◌, ◌∙◌, ◌+◌, ◌++◌, length, take, drop, ap, sym, arith, List, ℕ, Bor}
use Rattle.std.proofs.lemmas.List.{length-map}
use Rattle.std.specs.List.{zip}
use Rattle.ark_base.proofs.Refusals.{passed_on}
use Rattle.ark_crh.specs.Ahead.{lent}
use Rattle.ark_paths.specs.Root.{all_hashes}
use Rattle.ark_paths.specs.Rows.{digests_of}
use Rattle.ark_paths.proofs.ListOutcomes.{length-each}
use Rattle.ark_merkle.specs.Batch.{last_changes}
use Rattle.ark_merkle.specs.Changed.{lent_changes, seen_changes}
use Rattle.ark_merkle.proofs.ChangeRuns.{hashed_so_far-run, hashed_so_far-run_refused}
use Rattle.ark_merkle.proofs.LentChanges.{lent-run}
use Rattle.ark_merkle.proofs.tree.batch.hash_last.Goals.{In_ok-indexes}
use Rattle.ark_merkle.proofs.tree.batch.hash_last.Goals as goal

-- the run and the changes behind it
run : (g : _) (c : In_ok-indexes g) → drop c.runs.next (lent_changes c.in_ok-last.last)
    ≡ zip c.in_ok-indexes.indexes.items (lent c.in_ok-indexes.leaves.items)
    ++ drop (c.runs.next + c.min-count.result) (lent_changes c.in_ok-last.last)
run g c =
    lent-run c.in_ok-last.last.items c.runs.next c.min-count.result c.in_ok-indexes.indexes.items
    (lent c.in_ok-indexes.leaves.items) (c.in_ok-indexes.ensures.parts
    ∙ ap (seen_changes (λ leaf. leaf.now)) (c.part_of.ensures
    ∙ ap (λ xs. take c.min-count.result (drop c.runs.next xs)) c.deref.ensures.value))

same : (g : _) (c : In_ok-indexes g) → length c.in_ok-indexes.indexes.items
    ≡ length (lent c.in_ok-indexes.leaves.items)
same g c =
    omega (
      arith,
      c.in_ok-indexes.ensures.count,
      length-map c.in_ok-indexes.leaves.items (λ (leaf : Bor _). leaf.now),
    )

pub returns-in_err-made : goal.returns-in_err-made
returns-in_err-made g c =
    let hash = (g.T.TreeHasher.hashes c.args.hasher.now).leaf in
    let here = (goal.at.returns-in_err-made g c).In_ok-indexes in
    passed_on _ _ c.from_residual-in_err-made.result _ c.from_residual-in_err-made.ensures.1 c.in_err-made.ensures
    (λ is. hashed_so_far-run_refused hash (last_changes c.args.changes.now) _ c.in_ok-indexes.indexes.items
    (lent c.in_ok-indexes.leaves.items) _ (same g here) (rw (run g here) at c.runs.invariant) _
    (ap (λ xs. all_hashes hash (lent xs)) (sym c.deref-in-runs.ensures.value) ∙ is))

pub push_changes-requires : goal.push_changes-requires
push_changes-requires g c =
    let hash = (g.T.TreeHasher.hashes c.args.hasher.now).leaf in
    omega (
      arith,
      c.in_ok-indexes.ensures.count,
      length-map c.in_ok-made.made.items g.L.Numbered.numbers,
      length-map c.deref-in-runs.result.now (λ (leaf : Bor _). leaf.now),
      ap length c.deref-in-runs.ensures.value,
      ap length c.deref-in-runs-2.ensures.value,
      length-each hash (lent c.deref-in-runs.result.now) _ c.in_ok-made.ensures,
    )

pub runs-preserved : goal.runs-preserved
runs-preserved g c =
    let hash = (g.T.TreeHasher.hashes c.args.hasher.now).leaf in
    let here = (goal.at.runs-preserved g c).In_ok-indexes in
    let digests = digests_of g.L.Numbered.numbers c.in_ok-made.made in
    rw (c.in_ok-push_changes.ensures.changes ∙ ap (λ (ps : List ℕ). seen_changes g.L.Numbered.numbers
    c.runs.digests.items
    ++ zip ps digests) c.deref-in-runs-2.ensures.value)
    (hashed_so_far-run hash (last_changes c.args.changes.now) _ c.in_ok-indexes.indexes.items
    (lent c.in_ok-indexes.leaves.items) _ (same g here) (rw (run g here) at c.runs.invariant) digests
    (ap (λ xs. all_hashes hash (lent xs)) (sym c.deref-in-runs.ensures.value) ∙ c.in_ok-made.ensures))
