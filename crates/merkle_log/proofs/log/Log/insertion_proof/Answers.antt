use Rattle.ark_paths.specs.Rows.{digests_of}
use Rattle.merkle_log.proofs.InsertionBound.{insertion-own}
use Rattle.merkle_log.proofs.log.Log.insertion_proof.Goals as goal

pub returns-clause-accepted : goal.returns-clause-accepted
returns-clause-accepted g c = λ root root_is more fits.
    let hash = (g.T.TreeHasher.hashes c.args.self.now.hasher).pair.upper in
    insertion-own hash root c.args.size (digests_of g.D.Numbered.numbers c.in_ok-proof.proof) more
    c.args.self.now.empty _ (record {
      frontier = c.in_ok-proof.ensures.frontier;
      root_is = root_is;
      fits = fits;
    })
