use Rattle.std.proofs.Common.{◌≡◌, ◌≤◌, ◌++◌, length, ap, sym, ◌∙◌, arith}
use Rattle.log_store.proofs.Lying.{lies-short}
use Rattle.paxidore_calls.specs.Layouts.{log_in}
use Rattle.paxidore_calls.proofs.HeadLogs.{head-apart, head-second, log-dense}
use Rattle.paxidore_calls.proofs.Layouts.{never-first}
use Rattle.paxidore_calls.proofs.file_calls.checked.log_laid.Goals as goal

pub returns-then-file-lt-DIGESTS-clause-size : goal.returns-then-file-lt-DIGESTS-clause-size
returns-then-file-lt-DIGESTS-clause-size c =
    let own : c.args.file.now ≡ log_in c.args.file.now =
    log-dense c.args.file.now (lies-short c.args.file.now (omega (arith, c.if-file-lt-DIGESTS.true))) in
    rw (← own) c.log_in.ensures.size

pub returns-then-file-lt-DIGESTS-clause-kept : goal.returns-then-file-lt-DIGESTS-clause-kept
returns-then-file-lt-DIGESTS-clause-kept c =
    let own : c.args.file.now ≡ log_in c.args.file.now =
    log-dense c.args.file.now (lies-short c.args.file.now (omega (arith, c.if-file-lt-DIGESTS.true))) in
    rw (← own) c.log_in.ensures.kept

pub returns-then-file-lt-DIGESTS-clause-refused : goal.returns-then-file-lt-DIGESTS-clause-refused
returns-then-file-lt-DIGESTS-clause-refused c =
    let own : c.args.file.now ≡ log_in c.args.file.now =
    log-dense c.args.file.now (lies-short c.args.file.now (omega (arith, c.if-file-lt-DIGESTS.true))) in
    rw (← own) c.log_in.ensures.refused

pub returns-in-Dense-clause-size : goal.returns-in-Dense-clause-size
returns-in-Dense-clause-size c =
    let own : c.args.file.now ≡ log_in c.args.file.now =
    log-dense c.args.file.now (sym c.layout_whole-layout.ensures ∙ c.in-Dense.is) in
    rw (← own) c.log_in-in-Dense.ensures.size

pub returns-in-Dense-clause-kept : goal.returns-in-Dense-clause-kept
returns-in-Dense-clause-kept c =
    let own : c.args.file.now ≡ log_in c.args.file.now =
    log-dense c.args.file.now (sym c.layout_whole-layout.ensures ∙ c.in-Dense.is) in
    rw (← own) c.log_in-in-Dense.ensures.kept

pub returns-in-Dense-clause-refused : goal.returns-in-Dense-clause-refused
returns-in-Dense-clause-refused c =
    let own : c.args.file.now ≡ log_in c.args.file.now =
    log-dense c.args.file.now (sym c.layout_whole-layout.ensures ∙ c.in-Dense.is) in
    rw (← own) c.log_in-in-Dense.ensures.refused

pub returns-in-Apart-clause-size : goal.returns-in-Apart-clause-size
returns-in-Apart-clause-size c =
    let inside : 8192 ≤ length c.args.file.now = omega (arith, c.if-file-lt-DIGESTS.false) in
    let own : c.head_of_slots-head.result ++ c.behind_sectors.result.now ≡ log_in c.args.file.now =
    ap (λ l. c.head_of_slots-head.result ++ l) c.behind_sectors.ensures
    ∙ head-apart c.args.file.now c.slot_from-second.result inside c.slot_from-second.ensures c.slot_from-first.result
    c.head_of_slots-head.result (sym c.layout_whole-layout.ensures ∙ c.in-Apart.is) c.slot_from-first.ensures
    c.head_of_slots-head.ensures in
    rw (← own) c.log_with_head.ensures.size

pub returns-in-Apart-clause-kept : goal.returns-in-Apart-clause-kept
returns-in-Apart-clause-kept c =
    let inside : 8192 ≤ length c.args.file.now = omega (arith, c.if-file-lt-DIGESTS.false) in
    let own : c.head_of_slots-head.result ++ c.behind_sectors.result.now ≡ log_in c.args.file.now =
    ap (λ l. c.head_of_slots-head.result ++ l) c.behind_sectors.ensures
    ∙ head-apart c.args.file.now c.slot_from-second.result inside c.slot_from-second.ensures c.slot_from-first.result
    c.head_of_slots-head.result (sym c.layout_whole-layout.ensures ∙ c.in-Apart.is) c.slot_from-first.ensures
    c.head_of_slots-head.ensures in
    rw (← own) c.log_with_head.ensures.kept

pub returns-in-Apart-clause-refused : goal.returns-in-Apart-clause-refused
returns-in-Apart-clause-refused c =
    let inside : 8192 ≤ length c.args.file.now = omega (arith, c.if-file-lt-DIGESTS.false) in
    let own : c.head_of_slots-head.result ++ c.behind_sectors.result.now ≡ log_in c.args.file.now =
    ap (λ l. c.head_of_slots-head.result ++ l) c.behind_sectors.ensures
    ∙ head-apart c.args.file.now c.slot_from-second.result inside c.slot_from-second.ensures c.slot_from-first.result
    c.head_of_slots-head.result (sym c.layout_whole-layout.ensures ∙ c.in-Apart.is) c.slot_from-first.ensures
    c.head_of_slots-head.ensures in
    rw (← own) c.log_with_head.ensures.refused

pub returns-in-SecondAlone-clause-size : goal.returns-in-SecondAlone-clause-size
returns-in-SecondAlone-clause-size c =
    let inside : 8192 ≤ length c.args.file.now = omega (arith, c.if-file-lt-DIGESTS.false) in
    let own : c.head_of_slots-part.result ++ c.behind_sectors-in-SecondAlone.result.now ≡ log_in c.args.file.now =
    ap (λ l. c.head_of_slots-part.result ++ l) c.behind_sectors-in-SecondAlone.ensures
    ∙ head-second c.args.file.now c.slot_from-alone.result inside c.slot_from-alone.ensures
    c.head_of_slots-part.result (sym c.layout_whole-layout.ensures ∙ c.in-SecondAlone.is)
    c.head_of_slots-part.ensures in
    rw (← own) c.log_with_head-in-SecondAlone.ensures.size

pub returns-in-SecondAlone-clause-kept : goal.returns-in-SecondAlone-clause-kept
returns-in-SecondAlone-clause-kept c =
    let inside : 8192 ≤ length c.args.file.now = omega (arith, c.if-file-lt-DIGESTS.false) in
    let own : c.head_of_slots-part.result ++ c.behind_sectors-in-SecondAlone.result.now ≡ log_in c.args.file.now =
    ap (λ l. c.head_of_slots-part.result ++ l) c.behind_sectors-in-SecondAlone.ensures
    ∙ head-second c.args.file.now c.slot_from-alone.result inside c.slot_from-alone.ensures
    c.head_of_slots-part.result (sym c.layout_whole-layout.ensures ∙ c.in-SecondAlone.is)
    c.head_of_slots-part.ensures in
    rw (← own) c.log_with_head-in-SecondAlone.ensures.kept

pub returns-in-SecondAlone-clause-refused : goal.returns-in-SecondAlone-clause-refused
returns-in-SecondAlone-clause-refused c =
    let inside : 8192 ≤ length c.args.file.now = omega (arith, c.if-file-lt-DIGESTS.false) in
    let own : c.head_of_slots-part.result ++ c.behind_sectors-in-SecondAlone.result.now ≡ log_in c.args.file.now =
    ap (λ l. c.head_of_slots-part.result ++ l) c.behind_sectors-in-SecondAlone.ensures
    ∙ head-second c.args.file.now c.slot_from-alone.result inside c.slot_from-alone.ensures
    c.head_of_slots-part.result (sym c.layout_whole-layout.ensures ∙ c.in-SecondAlone.is)
    c.head_of_slots-part.ensures in
    rw (← own) c.log_with_head-in-SecondAlone.ensures.refused

pub unreachable-requires : goal.unreachable-requires
unreachable-requires c = never-first c.args.file.now (sym c.layout_whole-layout.ensures ∙ c.in-FirstAlone.is)
