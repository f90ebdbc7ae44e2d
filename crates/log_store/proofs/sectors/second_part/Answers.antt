use Rattle.std.proofs.Common.{◌∙◌, sym, arith}
use Rattle.log_store.proofs.Laying.{part-whole}
use Rattle.log_store.proofs.sectors.second_part.Goals as goal

pub returns-in-Ok : goal.returns-in-Ok
returns-in-Ok g c = λ obeys inside.
    c.in-Ok.ensures obeys (omega (arith, inside))
    ∙ sym (part-whole 4128 32 (g.D.Disk.seen c.args.disk.now) (omega (arith, inside)))
