use Rattle.std.proofs.Common.{◌≤◌, length, take, drop, ap, sym, ◌∙◌, arith}
use Rattle.std.proofs.lemmas.List.{take-take}
use Rattle.log_store.proofs.Laying.{part-whole}
use Rattle.paxidore_calls.proofs.file_calls.layouts.layout_on.Goals as goal

pub returns : goal.returns
returns g c = λ obeys.
    let file = g.D.Disk.seen c.args.disk.now in
    let long = c.in_ok-count.ensures obeys in
    let inside : 8192 ≤ length file = omega (arith, long, c.if-count-lt-DIGESTS.false) in
    c.layout_of_parts.ensures.file file long
    (c.title_and_slot.ensures ∙ ap (take 64) (c.in_ok-read_at.ensures obeys (omega (arith, inside)))
    ∙ take-take 64 96 (drop 0 file) (omega arith) ∙ sym (part-whole 0 64 file (omega (arith, inside))))
    (c.in_ok-read_at-2.ensures obeys (omega (arith, inside)) ∙ sym (part-whole 4096 64 file (omega (arith, inside))))
