use Rattle.std.proofs.Common.{arith}
use Rattle.merkle_log.specs.Multi.{known_of}
use Rattle.merkle_log.proofs.MultiHashing.{pairs-fit}
use Rattle.merkle_log.proofs.multi_inclusion.verify_multi_inclusion_digests_counting.Goals as goal

pub returns-clause-count : goal.returns-clause-count
returns-clause-count g c =
    let fits = pairs-fit c.args.size (known_of g.D.Numbered.numbers c.args.indexes.now c.args.digests.now
    c.args.proof.now) (omega arith) in
    omega (arith, c.in_ok-shown.ensures.counts)
