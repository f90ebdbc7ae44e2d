use Rattle.jubjub.proofs.element.Jubjub.from_coordinates.Goals as goal

pub of-requires : goal.of-requires
of-requires c = c.is_member.ensures.0 c.if-not-is_member.false
