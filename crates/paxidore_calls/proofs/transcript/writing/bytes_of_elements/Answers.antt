use Rattle.std.proofs.Common.{refl}
use Rattle.ark_base.specs.Digits.{bytes_for, bytes_of_number}
use Rattle.paxidore_calls.proofs.Numbers.{elements_spelled}
use Rattle.paxidore_calls.proofs.transcript.writing.bytes_of_elements.Goals as goal

pub returns : goal.returns
returns g c =
    let canonical = g.F.Canonical in
    let text = elements_spelled canonical.view g.F.Valued.value canonical.spelling
    (bytes_of_number (bytes_for g.F.Field.MODULUS_BIT_SIZE)) g.met.F.Field.spelling_is c.args.elements.now in
    rw (c.in_ok-serialize_items.ensures.appended, c.new-bytes.ensures.items, text) refl
