use Rattle.std.proofs.Common.{length, ap, arith}
use Rattle.paxidore_calls.proofs.KeptLogs.{room-enough, more-is, entries-of, appended-all}
use Rattle.paxidore_c.proofs.log_keeper.paxidore_log_append.Goals as goal

pub append_kept-requires-clause-room : goal.append_kept-requires-clause-room
append_kept-requires-clause-room c =
    let entries = entries-of c.args.entries.now c.args.lengths.now c.in-Ok.digests.items c.in-Ok.ensures.made in
    let size = ap (λ kept. kept.size) c.in-Some.ensures.1 in
    rw (size, c.deref.ensures.value, entries.count) (room-enough c.args.size (length c.args.lengths.now)
    c.in-Some-more_count.count (length c.args.more.now) c.in-Some-more_count.ensures.1 c.if-more-count.false)

pub returns-in-Ok-clause-grows : goal.returns-in-Ok-clause-grows
returns-in-Ok-clause-grows c = λ zero.
    let entries = entries-of c.args.entries.now c.args.lengths.now c.in-Ok.digests.items c.in-Ok.ensures.made in
    rw (
      appended-all c.args.size c.args.kept.now (length c.args.more.now) c.args.entries.now c.args.lengths.now
          entries.all c.in-Some.ensures.0 c.in-Some-more_count.ensures.0 (omega (
            arith,
            c.in-Some-more_count.ensures.1,
            c.if-more-count.false,
          )) entries.given,
      entries.hashed,
      ← c.deref.ensures.value,
    )
    (rw (c.in-Some.ensures.1) at c.append_kept.ensures.grows)

pub returns-in-Ok-clause-counted : goal.returns-in-Ok-clause-counted
returns-in-Ok-clause-counted c = λ zero.
    let entries = entries-of c.args.entries.now c.args.lengths.now c.in-Ok.digests.items c.in-Ok.ensures.made in
    more-is c.args.size (length c.args.lengths.now) c.append_kept.result
    (rw (c.in-Some.ensures.1, c.deref.ensures.value, entries.count) at c.append_kept.ensures.count)
