use Rattle.std.proofs.Common.{◌≡◌, suc, ◌+◌, [], ◌∷◌, ◌++◌, length, take, set, get_or, refl, sym, ap, ◌∙◌, arith}
use Rattle.std.proofs.lemmas.List.{length-set, length-take-le, take_all}
use Rattle.std.proofs.Math.Seq.{take-suc}
use Rattle.std.specs.List.{zip}
use Rattle.ark_merkle.specs.Batch.{puts}
use Rattle.paxidore_c.proofs.Putting.{puts-more, puts-none}
use Rattle.paxidore_c.proofs.kept_changes.put_digests.Goals as goal

pub digests-init : goal.digests-init
digests-init c = record { long = refl; put = sym (puts-none c.args.digests.now c.args.indexes.now) }

pub digests-preserved : goal.digests-preserved
digests-preserved c =
    let n = c.digests.n in
    let indexes = c.args.indexes.now in
    let run = c.args.run.now in
    let old = c.args.digests.now in
    let long : length (take n run) ≡ n = length-take-le n run (omega (arith, c.digests-test.true)) in
    let next : take (n + 1) run ≡ take n run ++ get_or run n [] ∷ [] =
    let s : n + 1 ≡ suc n = omega arith in ap (λ m. take m run) s ∙ take-suc run n [] c.digests-test.true in
    record {
      long = length-set c.digests.digests (get_or indexes n 0) (get_or run n []) ∙ c.digests.invariant.long;
      put = ap (λ now. set now (get_or indexes n 0) (get_or run n [])) c.digests.invariant.put
          ∙ ap (λ m. set (puts old (zip indexes (take n run))) (get_or indexes m 0) (get_or run n [])) (sym long)
          ∙ sym (puts-more old indexes (take n run) (get_or run n [])
          (omega (arith, long, c.digests-test.true, c.requires.count)))
          ∙ ap (λ more. puts old (zip indexes more)) (sym next);
    }

pub returns : goal.returns
returns c = record {
  long = c.digests.invariant.long;
  put = c.digests.invariant.put
      ∙ ap (λ run. puts c.args.digests.now (zip c.args.indexes.now run))
      (take_all c.digests.n c.args.run.now (omega (arith, c.digests-test.false)));
}
