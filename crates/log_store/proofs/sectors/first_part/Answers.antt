use Rattle.std.proofs.Common.{◌∙◌, arith}
use Rattle.log_store.proofs.Laying.{read-first}
use Rattle.log_store.proofs.sectors.first_part.Goals as goal

pub returns-in-Ok : goal.returns-in-Ok
returns-in-Ok g c = λ obeys inside.
    c.first_part_of.ensures
    ∙ read-first c.read_at.new.into (g.D.Disk.seen c.args.disk.now) inside
    (c.in-Ok.ensures obeys (omega (arith, inside)))
