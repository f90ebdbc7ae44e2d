use Rattle.std.proofs.Common.{◌≡◌, ◌+◌, ◌<◌, ◌≤◌, [], length, take, get_or, subst, arith}
use Rattle.std.proofs.lemmas.List.{length-take-le}
use Rattle.merkle_log.specs.Kept.{stored_front}
use Rattle.merkle_log.specs.Stored.{row_at}
use Rattle.log_file.proofs.Growing.{behind-of}
use Rattle.log_store.proofs.growth.bytes_made.Goals as goal

pub append_over-made-requires-clause-held : goal.append_over-made-requires-clause-held
append_over-made-requires-clause-held g c = λ level place peak.
    let zero : level ≡ 0 + level = omega arith in
    let has = c.requires.peaks level place peak in
    let peaks = c.args.peaks.now in
    subst (λ k. (k < length peaks) × (get_or peaks k [] ≡ get_or (row_at g.W.Whole.whole k) place [])) zero
    (omega (arith, has.0, c.told-peaks), has.1)

pub returns-clause-bytes : goal.returns-clause-bytes
returns-clause-bytes g c = λ leaves is keeps.
    let made = c.append_over-made.result in
    let new = take made c.append_over-made.new.more in
    let inside : made ≤ length c.append_over-made.new.more = omega (
      arith,
      c.append_over-made.ensures.count,
      c.append_over-made.ensures.same,
      c.requires.room,
    ) in
    let long = length-take-le made c.append_over-made.new.more inside in
    let appended = rw (c.new-bytes.ensures.items) at c.in_ok-serialize_items.ensures.appended in
    behind-of leaves (stored_front g.W.Whole.whole) c.args.digests.now new
    c.serialize_items.new.dest.items c.args.size is c.in_ok-serialize_items.ensures.spelled appended (omega (
      arith,
      long,
      c.append_over-made.ensures.count,
    )) (c.append_over-made.ensures.grows leaves is keeps)
