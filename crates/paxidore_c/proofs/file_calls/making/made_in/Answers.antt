use Rattle.std.proofs.Common.{◌≡◌, ◌∙◌, List, ℕ, drop, refl, sym, subst}
use Rattle.std.proofs.Math.Logic.{⊎_map}
use Rattle.std.proofs.lemmas.Result.{IfErr-weaker}
use Rattle.log_store.specs.Healing.{IsReadAs}
use Rattle.log_store.specs.Sectors.{sectors_head}
use Rattle.log_store.specs.Store.{IsPartOf}
use Rattle.paxidore_calls.specs.Layouts.{IsSameLog, SettlesApart}
use Rattle.paxidore_calls.specs.Plan.{IsStopped, carried}
use Rattle.paxidore_calls.specs.declared.file_calls.replay.Step.{Step}
use Rattle.paxidore_calls.proofs.LogCalls.{as-read, carries-by, handed-no-head}
use Rattle.paxidore_calls.proofs.Made.{stops-by}
use Rattle.paxidore_c.proofs.file_calls.making.made_in.Goals as goal

pub returns-clause-same : goal.returns-clause-same
returns-clause-same g c = λ read leaves log dense.
    let own = as-read g.file c.args.file_len c.args.places_len.now c.ask.new.places_len c.args.places.now
    c.ask.new.places c.args.pieces.now c.in_ok-ask.ensures.uncounted c.in_ok-ask.ensures.kept read in
    carries-by c.hand_over_steps.result (IsSameLog g.file) c.deref-2.result.now g.file _ _ _ _ _ _
    c.hand_over_steps.ensures.handed (rw c.deref-2.ensures.value c.in_ok-plan.ensures.some)
    (subst (λ (steps : List Step). IsSameLog g.file (carried steps g.file)) (sym c.deref-2.ensures.value)
    (c.in_ok-plan.ensures.same own.0 own.1 leaves log dense))

pub returns-clause-healed : goal.returns-clause-healed
returns-clause-healed g c = λ read leaves log spread lost.
    let own = as-read g.file c.args.file_len c.args.places_len.now c.ask.new.places_len c.args.places.now
    c.ask.new.places c.args.pieces.now c.in_ok-ask.ensures.uncounted c.in_ok-ask.ensures.kept read in
    carries-by c.hand_over_steps.result (SettlesApart leaves) c.deref-2.result.now g.file _ _ _ _ _ _
    c.hand_over_steps.ensures.handed (rw c.deref-2.ensures.value c.in_ok-plan.ensures.some)
    (subst (λ (steps : List Step). SettlesApart leaves (carried steps g.file)) (sym c.deref-2.ensures.value)
    (c.in_ok-plan.ensures.healed own.0 own.1 leaves log spread lost))

pub returns-clause-made : goal.returns-clause-made
returns-clause-made g c = λ read part.
    let own = as-read g.file c.args.file_len c.args.places_len.now c.ask.new.places_len c.args.places.now
    c.ask.new.places c.args.pieces.now c.in_ok-ask.ensures.uncounted c.in_ok-ask.ensures.kept read in
    carries-by c.hand_over_steps.result (λ left. left ≡ sectors_head) c.deref-2.result.now g.file _ _ _ _ _ _
    c.hand_over_steps.ensures.handed (rw c.deref-2.ensures.value c.in_ok-plan.ensures.some)
    (subst (λ (steps : List Step). carried steps g.file ≡ sectors_head) (sym c.deref-2.ensures.value)
    (c.in_ok-plan.ensures.completed own.0 own.1 part))

pub returns-clause-begun : goal.returns-clause-begun
returns-clause-begun g c = λ read part.
    let own = as-read g.file c.args.file_len c.args.places_len.now c.ask.new.places_len c.args.places.now
    c.ask.new.places c.args.pieces.now c.in_ok-ask.ensures.uncounted c.in_ok-ask.ensures.kept read in
    stops-by c.hand_over_steps.result (IsPartOf sectors_head) c.deref-2.result.now g.file _ _ _ _ _ _
    c.hand_over_steps.ensures.handed (rw c.deref-2.ensures.value c.in_ok-plan.ensures.some)
    (subst (λ (steps : List Step). (left : List ℕ) → IsStopped steps g.file left → IsPartOf sectors_head left)
    (sym c.deref-2.ensures.value) (c.in_ok-plan.ensures.part_stopped own.0 own.1 part))

pub returns-clause-stopped : goal.returns-clause-stopped
returns-clause-stopped g c = λ read leaves log lost.
    let own = as-read g.file c.args.file_len c.args.places_len.now c.ask.new.places_len c.args.places.now
    c.ask.new.places c.args.pieces.now c.in_ok-ask.ensures.uncounted c.in_ok-ask.ensures.kept read in
    ⊎_map (λ part. part)
    (λ each. stops-by c.hand_over_steps.result (IsReadAs leaves) c.deref-2.result.now g.file _ _ _ _ _ _
    c.hand_over_steps.ensures.handed (rw c.deref-2.ensures.value c.in_ok-plan.ensures.some)
    (subst (λ (steps : List Step). (left : List ℕ) → IsStopped steps g.file left → IsReadAs leaves left)
    (sym c.deref-2.ensures.value) each))
    (c.in_ok-plan.ensures.stopped own.0 own.1 leaves log lost)

pub returns-clause-others : goal.returns-clause-others
returns-clause-others g c = λ read alone.
    let own = as-read g.file c.args.file_len c.args.places_len.now c.ask.new.places_len c.args.places.now
    c.ask.new.places c.args.pieces.now c.in_ok-ask.ensures.uncounted c.in_ok-ask.ensures.kept read in
    ⊎_map (λ part. part) (⊎_map (λ part. part)
    (λ same. carries-by c.hand_over_steps.result (IsSameLog g.file) c.deref-2.result.now g.file _ _ _ _ _ _
    c.hand_over_steps.ensures.handed (rw c.deref-2.ensures.value c.in_ok-plan.ensures.some)
    (subst (λ (steps : List Step). IsSameLog g.file (carried steps g.file)) (sym c.deref-2.ensures.value) same)))
    (c.in_ok-plan.ensures.others own.0 own.1 alone)

pub returns-clause-behind : goal.returns-clause-behind
returns-clause-behind g c = stops-by c.hand_over_steps.result (λ left. drop 8192 left ≡ drop 8192 g.file)
    c.deref-2.result.now g.file _ _ _ _ _ _ c.hand_over_steps.ensures.handed
    (rw c.deref-2.ensures.value c.in_ok-plan.ensures.some)
    (subst (λ (steps : List Step). (left : List ℕ) → IsStopped steps g.file left → drop 8192 left ≡ drop 8192 g.file)
    (c.deref.ensures.value ∙ sym c.deref-2.ensures.value)
    (λ left. c.if-not-leave_behind.ensures refl g.file left))

pub returns-clause-head : goal.returns-clause-head
returns-clause-head g c = λ read. IfErr-weaker c.hand_over_steps.result _ _
    (λ why known head. absurd (handed-no-head why known head)) c.hand_over_steps.ensures.refused
