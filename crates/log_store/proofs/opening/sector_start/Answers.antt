use Rattle.std.proofs.Common.{◌∙◌, sym, arith}
use Rattle.log_store.proofs.Laying.{part-whole}
use Rattle.log_store.proofs.opening.sector_start.Goals as goal

pub returns : goal.returns
returns g c = λ obeys inside.
    c.in_ok-read_at.ensures obeys (omega (arith, inside))
    ∙ sym (part-whole c.args.place 64 (g.D.Disk.seen c.args.disk.now) inside)
