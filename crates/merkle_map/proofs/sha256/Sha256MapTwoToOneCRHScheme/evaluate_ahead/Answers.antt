use Rattle.std.proofs.Common.{arith, ◌∙◌, ◌++◌, ◌∷◌}
use Rattle.std.proofs.lemmas.List.{map-id}
use Rattle.sha2.specs.Sha256.{sha256}
use Rattle.ark_base.specs.Digits.{itself}
use Rattle.ark_crh.specs.Ahead.{lent_couple, of_couple}
use Rattle.ark_crh.proofs.SureRuns.{sure-run, whole-list}
use Rattle.merkle_map.proofs.sha256.Sha256MapTwoToOneCRHScheme.evaluate_ahead.Goals as goal

pub returns : goal.returns
returns c =
    sure-run (of_couple (λ key value. sha256 (0 ∷ (key ++ value)))) (lent_couple itself) c.args.couples.now _
    (whole-list itself map-id c.digests_of_pairs.new.digests _ _ (omega arith) ∙ c.digests_of_pairs.ensures)
