use Rattle.std.proofs.Common.{arith, ◌∙◌}
use Rattle.std.proofs.lemmas.List.{map-id}
use Rattle.ark_base.specs.Digits.{itself}
use Rattle.ark_crh.specs.Ahead.{lent_couple, of_couple}
use Rattle.ark_crh.proofs.SureRuns.{sure-run, whole-list}
use Rattle.ark_crh.proofs.array_hash.node_digests.Goals as goal

pub returns : goal.returns
returns g c =
    sure-run (of_couple g.H.ArrayHash.node_hash) (lent_couple itself) c.args.couples.now _
    (whole-list itself map-id c.nodes.new.digests _ _ (omega arith) ∙ c.nodes.ensures)
