use Rattle.signed_notes.proofs.Cuts.{lines-cut, lines-one}
use Rattle.signed_notes.proofs.cutting.next_line.Goals as goal

pub returns-in-Some-clause-lines : goal.returns-in-Some-clause-lines
returns-in-Some-clause-lines c = lines-cut c.args.bytes.now _ _ c.in-Some.ensures.parts

pub returns-in-None-clause-lines : goal.returns-in-None-clause-lines
returns-in-None-clause-lines c = lines-one c.args.bytes.now c.in-None.ensures.parts c.requires
