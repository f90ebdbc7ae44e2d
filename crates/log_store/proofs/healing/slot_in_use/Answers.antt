use Rattle.std.proofs.Common.{◌≡◌, ◌≤◌, length, take, drop, ap, ◌∙◌, arith}
use Rattle.std.specs.Prelude.{not}
use Rattle.log_file.specs.LogFile.{used_slot}
use Rattle.log_store.specs.Sectors.{laid}
use Rattle.log_store.proofs.Healed.{kept-of, used-next}
use Rattle.log_store.proofs.Mixing.{slot-within}
use Rattle.log_store.proofs.Surviving.{long-laid}
use Rattle.log_store.proofs.healing.slot_in_use.Goals as goal

pub returns-in-Ok-clause-kept : goal.returns-in-Ok-clause-kept
returns-in-Ok-clause-kept g c = λ obeys leaves spread long other log.
    let own = c.args.own.now in
    let file = g.D.Disk.seen own.disk in
    let first = c.in_ok-log.log.is_second_free in
    let known = c.in_ok-log.ensures.log obeys leaves log in
    let full : 96 ≤ length (laid own.layout file) = long-laid file long own.layout spread in
    let at : c.next_slot.result ≡ used_slot first = c.next_slot.ensures ∙ used-next first in
    kept-of own.layout file leaves c.in_ok-log.log.size c.in_ok-log.log.root first c.read_at.new.into spread
    (c.is_read_in.ensures c.if-not-is_read_in.false) long other log known.0 known.1 (c.in_ok-log.ensures.states obeys)
    (c.in-Ok.ensures obeys (omega (arith, c.next_slot.ensures, slot-within (not first), full))
    ∙ ap (λ n. take 32 (drop n (laid own.layout file))) at)
