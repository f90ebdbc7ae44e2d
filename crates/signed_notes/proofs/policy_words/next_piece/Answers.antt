use Rattle.signed_notes.proofs.Pieces.{pieces-cut, pieces-one}
use Rattle.signed_notes.proofs.policy_words.next_piece.Goals as goal

pub returns-in-Some-clause-pieces : goal.returns-in-Some-clause-pieces
returns-in-Some-clause-pieces c = pieces-cut 32 c.args.bytes.now _ _ c.in-Some.ensures.parts

pub returns-in-None-clause-pieces : goal.returns-in-None-clause-pieces
returns-in-None-clause-pieces c = pieces-one 32 c.args.bytes.now c.in-None.ensures.parts c.requires
