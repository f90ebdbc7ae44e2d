use Rattle.std.proofs.Common.{◌≡◌, true, ltb, refl}
use Rattle.std.proofs.lemmas.Bool.{lt-ltb}
use Rattle.ark_paths.proofs.SizeLemmas.{power_decided, power_shifted}
use Rattle.ark_paths.proofs.index.is_tree_size.Goals as goal

pub returns-then-size-gt1-clause-decides : goal.returns-then-size-gt1-clause-decides
returns-then-size-gt1-clause-decides c =
    rw (power_shifted c.args.size c.ilog2.result c.ranges.size.fits c.ilog2.ensures.power_le
    c.ilog2.ensures.next_power_gt) (power_decided c.args.size c.if-size-gt1.true)

pub returns-then-size-gt1-clause-test : goal.returns-then-size-gt1-clause-test
returns-then-size-gt1-clause-test c =
    let some : ltb 1 c.args.size ≡ true = lt-ltb _ _ c.if-size-gt1.true in
    let power = power_shifted c.args.size c.ilog2.result c.ranges.size.fits c.ilog2.ensures.power_le
    c.ilog2.ensures.next_power_gt in
    rw (power, some) refl
