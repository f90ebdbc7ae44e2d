use Rattle.std.proofs.Common.{◌≡◌, ◌%◌, arith, refl}
use Rattle.sha256_lanes.proofs.lanes.next_word.Goals as goal

pub returns-clause-value : goal.returns-clause-value
returns-clause-value c =
    let at : c.args.place % 16 ≡ c.args.place = omega arith in
    rw (at, c.small_sigma1.ensures, c.small_sigma0.ensures) refl
