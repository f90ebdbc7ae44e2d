use Rattle.merkle_map.proofs.fill.+forget_in.Goals as goal

pub returns-in-Fork-clause-none : goal.returns-in-Fork-clause-none
returns-in-Fork-clause-none g t c = λ h. (tt, c.forget_in.ensures.none h, c.forget_in-in-Fork.ensures.none h)
