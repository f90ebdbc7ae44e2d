use Rattle.ark_base.specs.Digits.{bytes_for, bytes_of_number}
use Rattle.paxidore_calls.proofs.Numbers.{elements_spelled}
use Rattle.paxidore_calls.proofs.transcript.forms.OwnElementForm.write_elements.Goals as goal

pub returns-clause-appended : goal.returns-clause-appended
returns-clause-appended g c =
    let canonical = g.F.Canonical in
    let text = elements_spelled canonical.view g.F.Valued.value canonical.spelling
    (bytes_of_number (bytes_for g.F.Field.MODULUS_BIT_SIZE)) g.met.F.Field.spelling_is c.args.elements.now in
    rw text at c.serialize_items.ensures.appended
