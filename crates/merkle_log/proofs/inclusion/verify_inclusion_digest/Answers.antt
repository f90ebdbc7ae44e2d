use Rattle.std.proofs.Common.{◌≡◌, ◌<◌, true, nat_lt, arith}
use Rattle.std.proofs.lemmas.Bool.Decides.{nat_tests}
use Rattle.ark_base.specs.declared.error.Error.{Error}
use Rattle.ark_base.specs.Laws.Steps.{done_injective}
use Rattle.merkle_log.proofs.Verdicts.{pow_above, inclusion-bound, inclusion-own}
use Rattle.merkle_log.proofs.Answered.{answered-bound, answered-own}
use Rattle.merkle_log.proofs.inclusion.verify_inclusion_digest.Goals as goal

pub returns-clause-answer : goal.returns-clause-answer
returns-clause-answer g c =
    let size = c.args.size in
    let inside : c.args.index < size = omega arith in
    let t : nat_lt c.args.index size ≡ true = grind (arith, nat_tests) in
    let high = pow_above size in
    let numbers = g.D.Numbered.numbers in
    let same : numbers c.args.digest.now ≡ numbers c.in_ok-own.own =
    done_injective {E = Error} _ _ c.in_ok-own.ensures in
    rw (t, same) (c.leads_to.ensures size (omega arith))

pub returns-clause-bound : goal.returns-clause-bound
returns-clause-bound g c = answered-bound _ _ (inclusion-bound _ _ _ _ _ _) (returns-clause-answer g c)

pub returns-clause-own : goal.returns-clause-own
returns-clause-own g c own = answered-own _ _ (inclusion-own _ _ _ _ _ _ own) (returns-clause-answer g c)
