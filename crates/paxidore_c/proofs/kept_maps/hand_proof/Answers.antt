use Rattle.std.proofs.Common.{Ok, IfOk, refl, subst, sym, w32, ◌∙◌}
use Rattle.std.proofs.lemmas.Int.{to_z-of_z}
use mir.Val.{of_z, to_z}
use Rattle.paxidore_calls.specs.Answer.{Hands}
use Rattle.paxidore_c.proofs.KeptMapCalls.{handed-codes, or-order}
use Rattle.paxidore_c.proofs.kept_maps.hand_proof.Goals as goal

pub returns-in-Ok-clause-handed : goal.returns-in-Ok-clause-handed
returns-in-Ok-clause-handed c =
    let fits = to_z-of_z w32 c.hand_over.result (record { sfits = c.hand_over.type_inv }) in
    subst (λ made. IfOk made (λ bytes. Hands (Ok bytes.items) c.args.proof.now c.hand_over.new.buffer
    c.args.proof_len.now c.hand_over.new.count (to_z w32 (of_z w32 c.hand_over.result)))) (sym c.in-Ok.is)
    (subst (Hands (Ok c.in-Ok.bytes.items) c.args.proof.now c.hand_over.new.buffer c.args.proof_len.now
    c.hand_over.new.count) (sym fits) (c.hand_over.ensures (Ok c.in-Ok.bytes.items) refl))

pub returns-in-Ok-clause-kept : goal.returns-in-Ok-clause-kept
returns-in-Ok-clause-kept c = λ other.
    let fits = to_z-of_z w32 c.hand_over.result (record { sfits = c.hand_over.type_inv }) in
    (c.hand_over.ensures (Ok c.in-Ok.bytes.items) refl).kept (λ zero. other (fits ∙ zero))

pub returns-in-Ok-clause-uncounted : goal.returns-in-Ok-clause-uncounted
returns-in-Ok-clause-uncounted c = λ other more.
    let fits = to_z-of_z w32 c.hand_over.result (record { sfits = c.hand_over.type_inv }) in
    (c.hand_over.ensures (Ok c.in-Ok.bytes.items) refl).uncounted (λ zero. other (fits ∙ zero))
    (λ room. more (fits ∙ room))

pub returns-in-Ok-clause-codes : goal.returns-in-Ok-clause-codes
returns-in-Ok-clause-codes c =
    let fits = to_z-of_z w32 c.hand_over.result (record { sfits = c.hand_over.type_inv }) in
    rw fits (or-order c.hand_over.result (handed-codes c.in-Ok.bytes.items _ _ _ _ c.hand_over.result
    (c.hand_over.ensures (Ok c.in-Ok.bytes.items) refl)))

pub returns-in-Ok-clause-unordered : goal.returns-in-Ok-clause-unordered
returns-in-Ok-clause-unordered c = λ _.
    let fits = to_z-of_z w32 c.hand_over.result (record { sfits = c.hand_over.type_inv }) in
    rw fits (handed-codes c.in-Ok.bytes.items _ _ _ _ c.hand_over.result
    (c.hand_over.ensures (Ok c.in-Ok.bytes.items) refl))
