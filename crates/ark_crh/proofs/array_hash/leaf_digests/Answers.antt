use Rattle.std.proofs.Common.{arith, ap, ◌∙◌, sym}
use Rattle.std.proofs.lemmas.List.{map-id}
use Rattle.ark_base.specs.Digits.{itself}
use Rattle.ark_base.specs.Laws.Steps.{done_injective}
use Rattle.ark_crh.specs.Ahead.{lent, of_bytes}
use Rattle.ark_crh.proofs.SureRuns.{strings-run, sure-run, whole-list}
use Rattle.ark_crh.proofs.array_hash.leaf_digests.Goals as goal

pub returns : goal.returns
returns g c =
    sure-run (of_bytes g.H.ArrayHash.leaf_hash) (λ leaf. leaf.now) c.args.leaves.now _
    (whole-list itself map-id c.leaves.new.digests _ _ (omega arith) ∙ c.leaves.ensures
    ∙ strings-run g.H.ArrayHash.leaf_hash c.args.leaves.now c.deref.result.now
    (done_injective _ _ c.in_ok-run.ensures ∙ ap lent (sym c.deref.ensures.value)))
