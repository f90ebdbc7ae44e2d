use Rattle.std.proofs.Common.{◌≡◌, ◌==◌, false, arith}
use Rattle.std.proofs.lemmas.Bool.Decides.{nat_tests}
use Rattle.merkle_log.proofs.Verdicts.{pow_above}
use Rattle.merkle_log.proofs.path_lengths.consistency_length.Goals as goal

pub returns : goal.returns
returns c =
    let t : (c.args.old_size == c.args.new_size) ≡ false = grind (arith, nat_tests) in
    let high = pow_above c.args.new_size in
    rw (t) (c.count_from.ensures c.args.new_size (omega arith))
