use Rattle.std.proofs.Common.{◌≤◌, ◌<◌, ◌/◌, ◌^◌, length, Err, ap, sym, ◌∙◌, arith}
use Rattle.std.specs.Simd.{first_chunks}
use Rattle.std.proofs.lemmas.Bool.{ltb-false}
use Rattle.std.proofs.lemmas.List.{drop_at}
use Rattle.merkle_log.specs.Kept.{front}
use Rattle.merkle_log.specs.Stored.{stored_count}
use Rattle.paxidore_calls.proofs.HeadLogs.{size-large, size-none, size-short, size-some}
use Rattle.paxidore_calls.proofs.file_calls.checked.log_with_head.Goals as goal

pub returns-in_default-clause-refused : goal.returns-in_default-clause-refused
returns-in_default-clause-refused c =
    size-none c.args.head.now c.args.bytes.now c.told-head (sym c.in_default.ensures)
    ∙ ap Err (sym c.fault_without_head.ensures)

pub returns-then-not-is_size-clause-refused : goal.returns-then-not-is_size-clause-refused
returns-then-not-is_size-clause-refused c =
    size-large c.args.head.now c.args.bytes.now c.told-head c.in-Some.found.size c.in-Some.found.is_second_next
    (sym c.in-Some.ensures)
    (ltb-false c.in-Some.found.size (2 ^ 63) (sym c.is_size.ensures.test ∙ c.if-not-is_size.true))

pub returns-then-bytes-count-clause-refused : goal.returns-then-bytes-count-clause-refused
returns-then-bytes-count-clause-refused c =
    let few : length c.args.bytes.now / 32 < stored_count c.in-Some.found.size =
    omega (arith, c.if-bytes-count.true, c.stored_count-count.ensures) in
    size-short c.args.head.now c.args.bytes.now c.told-head c.in-Some.found.size c.in-Some.found.is_second_next
    (sym c.in-Some.ensures) few

pub returns-clause-size : goal.returns-clause-size
returns-clause-size c =
    let enough : stored_count c.in-Some.found.size ≤ length c.args.bytes.now / 32 =
    omega (arith, c.if-bytes-count.false, c.stored_count-count.ensures) in
    size-some c.args.head.now c.args.bytes.now c.told-head c.in-Some.found.size c.in-Some.found.is_second_next
    (sym c.in-Some.ensures) (c.is_size.ensures.fits c.if-not-is_size.false) enough

pub returns-clause-kept : goal.returns-clause-kept
returns-clause-kept c =
    let size = c.in-Some.found.size in
    c.new.ensures ∙ ap (front size) (c.digests_from.ensures.digests
    ∙ ap (λ n. first_chunks 32 n c.args.bytes.now) c.stored_count-count.ensures
    ∙ ap (first_chunks 32 (stored_count size)) (sym (drop_at c.args.head.now c.args.bytes.now 96 c.told-head)))
