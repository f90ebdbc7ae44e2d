use Rattle.std.proofs.Common.{◌≡◌, true, arith, sym, ◌∙◌}
use Rattle.merkle_log.specs.Multi.{are_multi_indexes}
use Rattle.paxidore_calls.proofs.KeptLogs.{entries-of}
use Rattle.paxidore_c.proofs.MultiLog.{multi-shown-gives, multi-shows-zero, no-entries-give}
use Rattle.paxidore_c.proofs.log_multi.paxidore_log_verify_multi_inclusion.Goals as goal

pub returns-clause-answer : goal.returns-clause-answer
returns-clause-answer c =
    let entries = entries-of c.args.entries.now c.args.lengths.now c.in-Ok.digests.items c.in-Ok.ensures.made in
    let rising : are_multi_indexes c.args.size c.args.indexes.now ≡ true
    = sym c.are_multi_indexes.ensures ∙ c.if-not-are_multi_indexes.false in
    multi-shown-gives c.args.root.now c.args.size c.args.indexes.now c.args.entries.now c.args.lengths.now
    c.args.proof.now c.in-Ok.digests.items entries (omega arith) rising c.verify_multi_inclusion_bytes.result
    (rw (c.deref.ensures.value) at c.verify_multi_inclusion_bytes.ensures.answer) c.verdict_code.result
    c.verdict_code.ensures

pub returns-clause-shows : goal.returns-clause-shows
returns-clause-shows c =
    let entries = entries-of c.args.entries.now c.args.lengths.now c.in-Ok.digests.items c.in-Ok.ensures.made in
    let rising : are_multi_indexes c.args.size c.args.indexes.now ≡ true
    = sym c.are_multi_indexes.ensures ∙ c.if-not-are_multi_indexes.false in
    multi-shows-zero c.args.root.now c.args.size c.args.indexes.now c.args.entries.now c.args.lengths.now
    c.args.proof.now c.in-Ok.digests.items entries (omega arith) rising c.verify_multi_inclusion_bytes.result
    (rw (c.deref.ensures.value) at c.verify_multi_inclusion_bytes.ensures.bound) c.verdict_code.result
    c.verdict_code.ensures

pub returns-in-Err-clause-answer : goal.returns-in-Err-clause-answer
returns-in-Err-clause-answer c =
    let rising : are_multi_indexes c.args.size c.args.indexes.now ≡ true
    = sym c.are_multi_indexes.ensures ∙ c.if-not-are_multi_indexes.false in
    no-entries-give c.args.root.now c.args.size c.args.indexes.now c.args.entries.now c.args.lengths.now
    c.args.proof.now (omega arith) rising c.in-Err.refused c.in-Err.ensures.made c.code-in-Err.result
    c.code-in-Err.ensures
