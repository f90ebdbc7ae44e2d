use Rattle.std.proofs.Common.{◌<◌, refl, arith}
use Rattle.merkle_log.proofs.Verdicts.{pow_above, sizes-grown}
use Rattle.merkle_log.proofs.Raised.{raised-odd, raised-even}
use Rattle.merkle_log.proofs.consistency.is_front.Goals as goal

pub complete-init : goal.complete-init
complete-init g c =
    let high = pow_above c.args.new_size in
    record { levels = c.args.new_size; high = omega arith; inside = omega arith; is = refl }

pub complete-preserved : goal.complete-preserved
complete-preserved g c = raised-odd c.complete.invariant (omega arith)

pub returns : goal.returns
returns g c =
    let some : 0 < c.args.old_size = omega arith in
    let more : c.args.old_size < c.args.new_size = omega arith in
    let seeded = raised-even c.complete.invariant (omega arith) in
    rw (sizes-grown _ _ _ _ _ _ some more, seeded.is) (c.leads_from_seed.ensures seeded.levels seeded.high)
