use Rattle.poseidon2.proofs.layers.internal_layer.Goals as goal

pub returns-then-is_short : goal.returns-then-is_short
returns-then-is_short g c = rw (c.is_short.ensures.numbers c.if-is_short.true) c.multiply_short.ensures
