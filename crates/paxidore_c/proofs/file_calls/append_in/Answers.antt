use Rattle.std.proofs.Common.{◌≡◌, ℕ, List, length, IfErr, subst, arith}
use Rattle.std.proofs.lemmas.Bool.Decides.{nat_tests}
use Rattle.std.proofs.lemmas.Result.{err_from_is_err_and}
use Rattle.ark_paths.specs.Pair.{Digest}
use Rattle.paxidore_calls.specs.Layouts.{grown_size, log_in}
use Rattle.paxidore_calls.specs.LogFiles.{IsReason}
use Rattle.paxidore_calls.specs.Plan.{Grows}
use Rattle.paxidore_calls.proofs.KeptLogs.{entries-of}
use Rattle.paxidore_calls.proofs.LogCalls.{as-read, of-entries, size-refused}
use Rattle.paxidore_c.proofs.file_calls.append_in.Goals as goal

pub returns-then-not-is_empty-clause-grows : goal.returns-then-not-is_empty-clause-grows
returns-then-not-is_empty-clause-grows g c = λ read leaves log some.
    let own = as-read g.file c.args.file_len c.args.places_len.now c.ask.new.places_len c.args.places.now
    c.ask.new.places c.args.pieces.now c.in_ok-ask.ensures.uncounted c.in_ok-ask.ensures.kept read in
    let known = entries-of c.args.entries.now c.args.lengths.now c.deref.result.now
    (rw c.deref.ensures.value c.in_ok-digests.ensures.made) in
    of-entries c.hand_over_growth.result
    (λ (digests : List Digest). Grows leaves digests g.file c.args.bytes.now c.hand_over_growth.new.bytes
    c.hand_over_growth.new.bytes_len c.args.steps.now c.hand_over_growth.new.steps c.hand_over_growth.new.steps_len
    c.hand_over_growth.new.size) c.args.entries.now c.args.lengths.now c.deref.result.now known
    (c.hand_over_growth.ensures.grows own.0 own.1 leaves log)

pub returns-then-not-is_empty-clause-none : goal.returns-then-not-is_empty-clause-none
returns-then-not-is_empty-clause-none g c = λ read leaves log none.
    let known = entries-of c.args.entries.now c.args.lengths.now c.in_ok-digests.digests.items
    c.in_ok-digests.ensures.made in
    absurd (grind (arith, nat_tests, none, known.count))

pub returns-then-not-is_empty-clause-refused : goal.returns-then-not-is_empty-clause-refused
returns-then-not-is_empty-clause-refused g c = λ read.
    let own = as-read g.file c.args.file_len c.args.places_len.now c.ask.new.places_len c.args.places.now
    c.ask.new.places c.args.pieces.now c.in_ok-ask.ensures.uncounted c.in_ok-ask.ensures.kept read in
    let known = entries-of c.args.entries.now c.args.lengths.now c.deref.result.now
    (rw c.deref.ensures.value c.in_ok-digests.ensures.made) in
    subst (λ (n : ℕ). IfErr c.hand_over_growth.result (IsReason (log_in g.file) (grown_size g.file n))) known.count
    (c.hand_over_growth.ensures.refused own.0 own.1)

pub returns-then-not-is_empty-clause-lost : goal.returns-then-not-is_empty-clause-lost
returns-then-not-is_empty-clause-lost g c = λ read lost some.
    let own = as-read g.file c.args.file_len c.args.places_len.now c.ask.new.places_len c.args.places.now
    c.ask.new.places c.args.pieces.now c.in_ok-ask.ensures.uncounted c.in_ok-ask.ensures.kept read in
    c.hand_over_growth.ensures.lost own.0 own.1 lost

pub returns-in_err-own-clause-refused : goal.returns-in_err-own-clause-refused
returns-in_err-own-clause-refused g c = λ read.
    let own = as-read g.file c.args.file_len c.args.places_len.now c.ask.new.places_len c.args.places.now
    c.ask.new.places c.args.pieces.now c.in_ok-ask.ensures.uncounted c.in_ok-ask.ensures.kept read in
    let known = entries-of c.args.entries.now c.args.lengths.now c.in_ok-digests.digests.items
    c.in_ok-digests.ensures.made in
    let none : length c.args.lengths.now ≡ 0 = grind (arith, nat_tests, known.count) in
    let e = err_from_is_err_and c.from_residual-in_err-own.result c.from_residual-in_err-own.ensures.1 in
    rw (e.1, e.2, none) (size-refused g.file _ (c.in_err-own.ensures.refused own.0 own.1))

pub returns-clause-grows : goal.returns-clause-grows
returns-clause-grows g c = λ read leaves log some.
    let known = entries-of c.args.entries.now c.args.lengths.now c.in_ok-digests.digests.items
    c.in_ok-digests.ensures.made in
    absurd (grind (arith, nat_tests, some, known.count))

pub returns-clause-none : goal.returns-clause-none
returns-clause-none g c = λ read leaves log none.
    let own = as-read g.file c.args.file_len c.args.places_len.now c.ask.new.places_len c.args.places.now
    c.ask.new.places c.args.pieces.now c.in_ok-ask.ensures.uncounted c.in_ok-ask.ensures.kept read in
    (c.in_ok-own.ensures.size own.0 own.1 leaves log, c.in_ok-hand_over_steps.ensures.handed)

pub returns-clause-lost : goal.returns-clause-lost
returns-clause-lost g c = λ read lost some.
    let known = entries-of c.args.entries.now c.args.lengths.now c.in_ok-digests.digests.items
    c.in_ok-digests.ensures.made in
    absurd (grind (arith, nat_tests, some, known.count))
