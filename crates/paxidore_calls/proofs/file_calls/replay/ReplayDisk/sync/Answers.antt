use Rattle.paxidore_calls.proofs.Plans.{sync-crash}
use Rattle.paxidore_calls.proofs.file_calls.replay.ReplayDisk.sync.Goals as goal

pub returns-clause-crash : goal.returns-clause-crash
returns-clause-crash g c = λ obeys left stopped. rw (← c.self.view_is) (sync-crash c.self.inside.done
    c.self.inside.steps.items g.F.Held.file left (rw (c.count-self-inside.ensures, c.deref.ensures.value) at stopped))
