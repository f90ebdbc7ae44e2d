use Rattle.ark_paths.proofs.multi_path.MultiPath.verify_next_with.Goals as goal

pub returns-clause-answer : goal.returns-clause-answer
returns-clause-answer g c = rw (g.met.P.Views.multi_way_is, ← c.deref.ensures.value, ← c.deref-2.ensures.value)
    (rw (← c.deref-3.ensures.value, ← c.deref-4.ensures.value) c.judge_all.ensures.answer)

pub returns-clause-exact : goal.returns-clause-exact
returns-clause-exact g c = rw (g.met.P.Views.multi_way_is, ← c.deref.ensures.value, ← c.deref-2.ensures.value)
    (rw (← c.deref-3.ensures.value, ← c.deref-4.ensures.value) c.judge_all.ensures.exact)

pub returns-clause-most : goal.returns-clause-most
returns-clause-most g c = rw (g.met.P.Views.multi_way_is, ← c.deref-3.ensures.value, ← c.deref-4.ensures.value)
    c.judge_all.ensures.most
