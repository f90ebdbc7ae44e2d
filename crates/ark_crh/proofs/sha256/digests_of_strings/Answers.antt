use Rattle.std.proofs.Common.{◌≡◌, ◌∙◌, List, ℕ, map, take, length, subst, sym, ap}
use Rattle.std.proofs.lemmas.List.{map-id}
use Rattle.ark_base.specs.Digits.{itself}
use Rattle.ark_base.specs.Laws.Steps.{done_injective}
use Rattle.ark_crh.specs.Ahead.{AreOfFirst, lent_couples, of_bytes, of_couple, sure}
use Rattle.ark_crh.specs.Plain.{plain_node}
use Rattle.ark_crh.proofs.SureRuns.{first-of_first, strings-ahead}
use Rattle.ark_crh.proofs.sha256.digests_of_strings.Goals as goal

pub returns : goal.returns
returns c =
    let hash = sure (of_couple plain_node) in
    let seen = lent_couples (of_bytes itself) c.args.couples.now in
    let run : lent_couples itself c.deref-2.result.now ≡ take (length c.in_ok-inputs.inputs.items) seen =
    ap (lent_couples itself) c.deref-2.ensures.value ∙ sym (done_injective _ _ c.in_ok-run.ensures)
    ∙ map-id c.deref.result.now ∙ c.deref.ensures.value ∙ c.in_ok-inputs.ensures.couples in
    let digests : AreOfFirst hash seen c.in_ok-digests.digests.items =
    first-of_first hash (length c.in_ok-inputs.inputs.items) seen c.in_ok-digests.digests.items
    (subst (AreOfFirst hash (take (length c.in_ok-inputs.inputs.items) seen))
    (map-id c.in_ok-digests.digests.items)
    (subst (λ (xs : List (List ℕ × List ℕ)). AreOfFirst hash xs (map itself c.in_ok-digests.digests.items)) run
    c.in_ok-digests.ensures)) in
    strings-ahead hash seen c.deref-3.result.now c.strings.result
    (subst (AreOfFirst hash seen) (sym c.deref-3.ensures.value) digests) c.strings.ensures
