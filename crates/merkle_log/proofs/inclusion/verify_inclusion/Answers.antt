use Rattle.std.proofs.Common.{◌≡◌, ◌<◌, true, nat_lt, arith}
use Rattle.std.proofs.lemmas.Bool.Decides.{nat_tests}
use Rattle.merkle_log.proofs.Verdicts.{leaf_inside, leaf-bound, leaf-own, pow_above}
use Rattle.merkle_log.proofs.Answered.{answered-bound, answered-own}
use Rattle.merkle_log.proofs.inclusion.verify_inclusion.Goals as goal

pub returns-clause-answer : goal.returns-clause-answer
returns-clause-answer g c =
    let inside : c.args.index < c.args.size = omega arith in
    let t : nat_lt c.args.index c.args.size ≡ true = grind (arith, nat_tests) in
    let high = pow_above c.args.size in
    rw (leaf_inside _ _ _ _ _ _ inside, c.in_ok-digest.ensures, t) (c.leads_to.ensures c.args.size (omega arith))

pub returns-clause-bound : goal.returns-clause-bound
returns-clause-bound g c = answered-bound _ _ (leaf-bound (g.T.TreeHasher.hashes c.args.hasher.now) _ _ _ _ _)
    (returns-clause-answer g c)

pub returns-clause-own : goal.returns-clause-own
returns-clause-own g c own = answered-own _ _ (leaf-own (g.T.TreeHasher.hashes c.args.hasher.now) _ _ _ _ _ own)
    (returns-clause-answer g c)
