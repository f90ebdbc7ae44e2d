use Rattle.edwards.proofs.Couples.{six_are}
use Rattle.edwards.proofs.entries.found_entry.Goals as goal

pub returns : goal.returns
returns c = six_are c.args.found.now c.told-found
