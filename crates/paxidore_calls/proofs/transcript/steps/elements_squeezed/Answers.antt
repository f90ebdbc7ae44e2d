use Rattle.std.proofs.Common.{◌≡◌, ◌/◌, ◌%◌, length, map, arith}
use Rattle.paxidore_calls.proofs.Written.{length-whole}
use Rattle.paxidore_calls.specs.Transcript.{element_length, elements_bytes, field_size}
use Rattle.paxidore_calls.proofs.transcript.steps.elements_squeezed.Goals as goal

pub returns-clause-len : goal.returns-clause-len
returns-clause-len g c =
    let f = field_size g.F.Field.MODULUS g.F.Field.MODULUS_BIT_SIZE in
    let xs = c.deref.result.now in
    let is : elements_bytes f (map g.F.Valued.value xs) ≡ c.in_ok-bytes.bytes.items = cc c.in_ok-bytes.ensures in
    let many : length xs ≡ c.args.count / element_length f =
    rw (← c.element_length-len.ensures) (omega (arith, c.deref.ensures.len, c.in_ok-elements.ensures.len)) in
    let whole : c.args.count % element_length f ≡ 0 =
    rw (← c.element_length-len.ensures) (omega (arith, c.if-count-len-ne0.false)) in
    length-whole f g.F.Valued.value xs c.args.count c.in_ok-bytes.bytes.items is many whole
