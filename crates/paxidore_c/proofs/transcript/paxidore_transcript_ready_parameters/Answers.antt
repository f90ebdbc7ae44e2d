use Rattle.std.proofs.Common.{◌⊎◌, inl, inr, Err, w32}
use Rattle.std.proofs.lemmas.Int.{to_z-of_z}
use Rattle.std.proofs.lemmas.Result.{IfErr-weaker}
use Rattle.paxidore_c.proofs.Hashed.{handed-codes}
use Rattle.paxidore_calls.proofs.Written.{gives-itself, handed, seen}
use Rattle.paxidore_calls.specs.Transcript.{SpellReady}
use Rattle.paxidore_calls.specs.declared.refused.Refused.TheVariants.{Count, Invalid}
use Rattle.paxidore_c.proofs.transcript.paxidore_transcript_ready_parameters.Goals as goal

pub returns-clause-ready : goal.returns-clause-ready
returns-clause-ready c =
    let hands = c.hand_over.ensures (seen (λ bytes. bytes.items) c.ready_over.result)
    (gives-itself (λ bytes. bytes.items) c.ready_over.result) in
    let fits = to_z-of_z w32 c.hand_over.result (record { sfits = c.hand_over.type_inv }) in
    rw fits (handed (λ bytes. bytes.items) (SpellReady c.args.field c.args.rate)
    c.ready_over.result _ _ _ _ c.hand_over.result c.ready_over.ensures.ready hands)

pub returns-clause-kept : goal.returns-clause-kept
returns-clause-kept c =
    let hands = c.hand_over.ensures (seen (λ bytes. bytes.items) c.ready_over.result)
    (gives-itself (λ bytes. bytes.items) c.ready_over.result) in
    let fits = to_z-of_z w32 c.hand_over.result (record { sfits = c.hand_over.type_inv }) in
    rw fits hands.kept

pub returns-clause-none : goal.returns-clause-none
returns-clause-none c = λ none.
    let fits = to_z-of_z w32 c.hand_over.result (record { sfits = c.hand_over.type_inv }) in
    rw fits (c.hand_over.ensures (Err Invalid) (c.ready_over.ensures.none none)).right_code

pub returns-clause-no_rate : goal.returns-clause-no_rate
returns-clause-no_rate c = λ ready none.
    let fits = to_z-of_z w32 c.hand_over.result (record { sfits = c.hand_over.type_inv }) in
    rw fits (c.hand_over.ensures (Err Count) (c.ready_over.ensures.no_rate ready none)).right_code

-- no other name is told
no-other : {A B C D : Type 0} → A ⊎ B ⊎ C ⊎ (⊥ × D) → A ⊎ B ⊎ C
no-other (inl a) = inl a
no-other (inr (inl b)) = inr (inl b)
no-other (inr (inr (inl c))) = inr (inr c)
no-other (inr (inr (inr none))) = absurd none.0

pub returns-clause-codes : goal.returns-clause-codes
returns-clause-codes c = λ some.
    let hands = c.hand_over.ensures (seen (λ bytes. bytes.items) c.ready_over.result)
    (gives-itself (λ bytes. bytes.items) c.ready_over.result) in
    let fits = to_z-of_z w32 c.hand_over.result (record { sfits = c.hand_over.type_inv }) in
    rw fits (no-other (handed-codes (λ bytes. bytes.items) ⊥ Invalid c.ready_over.result _ _ _ _ c.hand_over.result
    (IfErr-weaker c.ready_over.result _ _ (λ refused memory. inl memory) (c.ready_over.ensures.memory some)) hands))
