use Rattle.std.proofs.Common.{arith}
use Rattle.merkle_log.proofs.Positions.{count-rises}
use Rattle.merkle_log.proofs.kept.Kept.first.Goals as goal

pub invariant_of-result : goal.invariant_of-result
invariant_of-result c =
    let fewer = rw (← c.self.view_is) at c.requires in (
      omega (arith, c.self.invariant.0),
      omega (
        arith,
        count-rises c.args.size c.self.inside.size fewer,
        c.self.invariant.1,
      ),
    )
