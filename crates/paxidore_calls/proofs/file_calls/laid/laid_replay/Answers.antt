use Rattle.paxidore_calls.proofs.file_calls.laid.laid_replay.Goals as goal

pub returns-in-Ok-clause-layout : goal.returns-in-Ok-clause-layout
returns-in-Ok-clause-layout g c = λ read size. rw (c.new-disk.ensures.nothing) at (c.in-Ok.ensures (read, size))
