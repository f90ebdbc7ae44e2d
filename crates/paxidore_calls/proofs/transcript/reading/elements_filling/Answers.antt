use Rattle.std.proofs.Common.{inr, arith}
use Rattle.std.proofs.lemmas.List.{length-drop}
use Rattle.paxidore_calls.proofs.Numbers.{elements_fault, elements_read}
use Rattle.paxidore_calls.proofs.Whole.{elements-alone, elements-fault, elements-more, error_passed}
use Rattle.paxidore_calls.specs.Transcript.{field_size}
use Rattle.paxidore_calls.proofs.transcript.reading.elements_filling.Goals as goal

pub returns-in_err-elements : goal.returns-in_err-elements
returns-in_err-elements g c =
    error_passed _ _ c.from_residual.result c.in_err-elements.field-0.0 c.from_residual.ensures.1
    c.in_err-elements.ensures.answer
    (λ h. elements-fault (field_size g.F.Field.MODULUS g.F.Field.MODULUS_BIT_SIZE) c.args.bytes.now
    c.element_length-len.result c.element_length-len.ensures (omega (arith, c.if-bytes-len-ne0.false))
    c.in_err-elements.field-0.0 (elements_fault _ _ _ _ _ g.met.F.Field.reads_numbers _ c.args.bytes.now _ h))

pub returns-then-used-bytes : goal.returns-then-used-bytes
returns-then-used-bytes g c =
    inr (elements-more (field_size g.F.Field.MODULUS g.F.Field.MODULUS_BIT_SIZE) c.args.bytes.now
    c.element_length-len.result c.element_length-len.ensures (omega (arith, c.if-bytes-len-ne0.false)) _ _
    (elements_read _ _ _ _ _ g.met.F.Field.reads_numbers _ c.args.bytes.now _ c.in_ok-elements.elements.items
    c.in_ok-elements.ensures.answer)
    (omega (arith, length-drop c.in_ok-elements.used c.args.bytes.now, c.if-used-bytes.true)))

pub returns : goal.returns
returns g c =
    elements-alone (field_size g.F.Field.MODULUS g.F.Field.MODULUS_BIT_SIZE) c.args.bytes.now
    c.element_length-len.result c.element_length-len.ensures (omega (arith, c.if-bytes-len-ne0.false)) _ _
    (elements_read _ _ _ _ _ g.met.F.Field.reads_numbers _ c.args.bytes.now _ c.in_ok-elements.elements.items
    c.in_ok-elements.ensures.answer)
    (omega (arith, length-drop c.in_ok-elements.used c.args.bytes.now, c.if-used-bytes.false))
