use Rattle.std.proofs.Common.{refl, arith}
use Rattle.merkle_log.proofs.Positions.{no-count}
use Rattle.log_store.proofs.Sounding.{none-hashed}
use Rattle.log_store.proofs.sound.sound_front.Goals as goal

pub entries-init : goal.entries-init
entries-init g c = record {
  limit = omega arith;
  count = omega (arith, no-count);
  fits = omega (arith, c.none_ahead-ahead.ensures);
  ahead = λ obeys inside. rw (c.none_ahead-ahead.ensures) refl;
  sound = λ obeys inside. none-hashed (g.D.Disk.seen c.args.disk.now);
}
