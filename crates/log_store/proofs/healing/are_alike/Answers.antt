use Rattle.std.proofs.Common.{sym, ◌∙◌, arith}
use Rattle.log_store.proofs.Healed.{alike-of}
use Rattle.log_store.proofs.healing.are_alike.Goals as goal

pub returns : goal.returns
returns g c = λ obeys long is.
    let file = g.D.Disk.seen c.args.disk.now in
    alike-of file c.in_ok-first.first c.in_ok-second.second long (c.in_ok-first.ensures obeys (omega (arith, long)))
    (c.in_ok-second.ensures obeys (omega (arith, long))) (sym c.is_pair.ensures ∙ is)
