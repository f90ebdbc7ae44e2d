use Rattle.std.proofs.Common.{Err, length, arith, ap}
use Rattle.kept_map.specs.declared.head.MapFault.TheVariants.{NoMap}
use Rattle.kept_map.proofs.Copying.{same_fault}
use Rattle.kept_map.proofs.Descent.{on_err}
use Rattle.kept_map.proofs.Wholly.{copied-keeps, room-in, top-below}
use Rattle.kept_map.proofs.copy.copy_to.Goals.{After-copy_at}
use Rattle.kept_map.proofs.copy.copy_to.Goals as goal

pub returns-in_err-to-clause-room : goal.returns-in_err-to-clause-room
returns-in_err-to-clause-room c = on_err c.from_residual.result (λ h xs keeps e_room f_room.
    c.in_err-to.ensures.sound h keeps.tree (top-below h c.args.entries.now c.args.forks.now c.args.head.now xs keeps)
    (room-in h c.args.entries.now c.args.forks.now c.args.head.now xs keeps c.args.to_entries.now c.args.to_forks.now
    e_room f_room))

pub returns-clause-copied : goal.returns-clause-copied
returns-clause-copied c = λ h xs keeps.
    let copied = c.in_ok-to.ensures.copied h keeps.tree
    (top-below h c.args.entries.now c.args.forks.now c.args.head.now xs keeps) in
    copied-keeps h c.args.entries.now c.args.forks.now c.args.head.now xs keeps c.copy_at.new.to_entries
    c.copy_at.new.to_forks c.copy_at.new.to c.in_ok-to.field-0 c.copy_at.ensures.inside copied

pub returns-clause-few : goal.returns-clause-few
returns-clause-few c = λ h xs keeps.
    let copied = c.in_ok-to.ensures.copied h keeps.tree
    (top-below h c.args.entries.now c.args.forks.now c.args.head.now xs keeps) in
    let e = copied.entry_count in
    let f = copied.forks_count in
    let size = ap length keeps.is.has in
    (omega (arith, e, size), omega (arith, f))

pub returns-in_err-to-clause-sound : goal.returns-in_err-to-clause-sound
returns-in_err-to-clause-sound c = λ h xs keeps is.
    c.in_err-to.ensures.there h keeps.tree (top-below h c.args.entries.now c.args.forks.now c.args.head.now xs keeps)
    (ap Err (same_fault c.from_residual.result c.in_err-to.field-0.0 NoMap c.from_residual.ensures.1 is))
