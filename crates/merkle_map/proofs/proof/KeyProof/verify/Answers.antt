use Rattle.std.proofs.Common.{map, ap, sym}
use Rattle.merkle_map.specs.KeyProof.{end_seen}
use Rattle.merkle_map.specs.Parts.{value_seen}
use Rattle.merkle_map.proofs.Climb.{bound_as}
use Rattle.merkle_map.proofs.proof.KeyProof.verify.Goals as goal

pub returns-in-None-clause-bound : goal.returns-in-None-clause-bound
returns-in-None-clause-bound g c =
    let numbers = g.D.Numbered.numbers in
    bound_as _ _ _ c.verify_absent.result (ap (value_seen (λ v. v.now)) (sym c.in-None.is))
    (ap (map numbers) c.as_slice-siblings.ensures.value) (ap end_seen (sym c.in-Nothing.is))
    c.verify_absent.ensures.bound

pub returns-in-Some-value-clause-bound : goal.returns-in-Some-value-clause-bound
returns-in-Some-value-clause-bound g c =
    let numbers = g.D.Numbered.numbers in
    bound_as _ _ _ c.verify_value.result (ap (value_seen (λ v. v.now)) (sym c.in-Some-value.is))
    (ap (map numbers) c.as_slice-siblings.ensures.value) (ap end_seen (sym c.in-Own.is))
    c.verify_value.ensures.bound

pub returns-in-None-value-2-clause-bound : goal.returns-in-None-value-2-clause-bound
returns-in-None-value-2-clause-bound g c =
    let numbers = g.D.Numbered.numbers in
    bound_as _ _ _ c.verify_other.result (ap (value_seen (λ v. v.now)) (sym c.in-None-value-2.is))
    (ap (map numbers) c.as_slice-siblings.ensures.value) (ap end_seen (sym c.in-Other.is))
    c.verify_other.ensures.bound
