use Rattle.std.proofs.Common.{◌∙◌, arith}
use Rattle.log_file.specs.LogFile.{stored_in}
use Rattle.log_store.proofs.Reading.{stored-at}
use Rattle.log_store.proofs.spots.read_spot.Goals as goal

pub returns-in-Ok-clause-own : goal.returns-in-Ok-clause-own
returns-in-Ok-clause-own g c = λ obeys size inside below own.
    let seen = g.D.Disk.seen c.args.disk.now in
    c.put_spot.ensures.own (stored_in size seen)
    (c.in-Ok.ensures obeys (omega (arith, inside, below)) ∙ stored-at size c.args.position seen below) own
