use Rattle.paxidore_calls.proofs.file_calls.grown.hand_over_growth.Goals as goal

pub returns-clause-grows : goal.returns-clause-grows
returns-clause-grows g c = λ read size leaves log. record {
  plan = c.in_ok-growth.growth.steps.items;
  handed = rw (c.deref.ensures.value) at c.in_ok-hand_over_steps.ensures.handed;
  settled = c.in_ok-growth.ensures.grown read size leaves log;
  stopped = c.in_ok-growth.ensures.stopped read size leaves log;
  layout = c.in_ok-growth.ensures.layout read size leaves log;
  size_is = c.in_ok-growth.ensures.size read size leaves log;
}
