use Rattle.paxidore_c.proofs.file_calls.paxidore_log_file_check.Goals as goal

pub returns-then-is_sound-clause-sound : goal.returns-then-is_sound-clause-sound
returns-then-is_sound-clause-sound c = λ zero. (
  c.in-Ok.log.head.size,
  c.in-Ok.ensures.size,
  rw (c.in-Ok.ensures.kept) at (c.is_sound.ensures.sound c.if-is_sound.true),
)
