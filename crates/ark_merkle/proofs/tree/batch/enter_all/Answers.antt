use Rattle.std.proofs.Common.{◌-◌, length, drop}
use Rattle.ark_merkle.proofs.LastLeaves.{last-rises}
use Rattle.ark_merkle.proofs.tree.batch.enter_all.Goals as goal

pub enter-requires : goal.enter-requires
enter-requires g c = rw c.loop-n.invariant (last-rises (drop (length c.args.changes.now - c.loop-n.n)
    c.args.changes.now))
