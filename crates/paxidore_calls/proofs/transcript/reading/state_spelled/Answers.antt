use Rattle.paxidore_calls.proofs.Numbers.{elements_fault, elements_read}
use Rattle.paxidore_calls.proofs.Whole.{error_passed, next-fault, refusal_passed, state-fault, state-made}
use Rattle.paxidore_calls.specs.Transcript.{field_size}
use Rattle.paxidore_calls.proofs.transcript.reading.state_spelled.Goals as goal

pub returns-in_err-elements : goal.returns-in_err-elements
returns-in_err-elements g c =
    error_passed _ _ c.from_residual.result c.in_err-elements.field-0.0 c.from_residual.ensures.1
    c.in_err-elements.ensures.answer
    (λ h. state-fault (field_size g.F.Field.MODULUS g.F.Field.MODULUS_BIT_SIZE) c.args.width c.args.bytes.now
    c.in_err-elements.field-0.0
    (elements_fault _ _ _ _ _ g.met.F.Field.reads_numbers c.args.width c.args.bytes.now _ h))

pub returns-in_err-next : goal.returns-in_err-next
returns-in_err-next g c =
    refusal_passed _ _ c.from_residual-in_err-next.result c.in_err-next.field-0.0
    c.from_residual-in_err-next.ensures.1 (rw c.rest_of.ensures at c.in_err-next.ensures.given)
    (next-fault (field_size g.F.Field.MODULUS g.F.Field.MODULUS_BIT_SIZE) c.args.width c.args.bytes.now _ _
    c.in_err-next.field-0.0 (elements_read _ _ _ _ _ g.met.F.Field.reads_numbers c.args.width c.args.bytes.now _
    c.in_ok-elements.elements.items c.in_ok-elements.ensures.answer))

pub returns : goal.returns
returns g c =
    rw (c.new.ensures, c.mode_of.ensures) (state-made (field_size g.F.Field.MODULUS g.F.Field.MODULUS_BIT_SIZE)
    c.args.width c.args.bytes.now _ _ c.in_ok-next.next
    (elements_read _ _ _ _ _ g.met.F.Field.reads_numbers c.args.width c.args.bytes.now _
    c.in_ok-elements.elements.items c.in_ok-elements.ensures.answer)
    (rw c.rest_of.ensures at c.in_ok-next.ensures.given))
