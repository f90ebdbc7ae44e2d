use Rattle.std.proofs.Common.{List, length, Ok, Err, arith}
use Rattle.std.specs.Result.{IfOk}
use Rattle.std.specs.declared.vec.Vec.{Vec}
use Rattle.std.proofs.lemmas.List.{length-map}
use Rattle.ark_base.specs.Outcome.{Outcome, AnswersBy}
use Rattle.ark_paths.specs.Index.{IsTreeSize}
use Rattle.ark_paths.specs.Pair.{Digest}
use Rattle.ark_paths.specs.Root.{all_hashes}
use Rattle.ark_paths.specs.Rows.{digests_of}
use Rattle.ark_paths.proofs.ListOutcomes.{length-each}
use Rattle.ark_merkle.proofs.tree.build.hash_all.Goals as goal

-- as many digests as leaves
sized : {A L Z : Type 0} (numbers : L → Digest) (hash : A → Outcome Digest) (leaves : List A)
    (result : Outcome (Vec L Z)) → AnswersBy (digests_of numbers) (all_hashes hash leaves) result
    → IfOk result (λ digests. IsTreeSize (length leaves) → IsTreeSize (length digests.items))
sized numbers hash leaves (Ok digests) is = λ size.
    (size.0, omega (arith, length-map digests.items numbers, length-each hash leaves _ is, size.1))
sized numbers hash leaves (Err e) is = tt

pub returns : goal.returns
returns g c = record {
  digests = c.leaves_in_runs.ensures;
  size = sized g.L.Numbered.numbers (g.T.TreeHasher.hashes c.args.hasher.now).leaf c.args.leaves.now
      c.leaves_in_runs.result c.leaves_in_runs.ensures;
}
