use Rattle.std.proofs.Common.{◌<◌, arith}
use Rattle.ark_wide_fields.specs.Laws.Fp256.{wide_below}
use Rattle.ed25519.specs.Edwards25519.{p}
use Rattle.ed25519.specs.Values.{value}
use Rattle.ed25519.proofs.points.point_bytes.Goals as goal

pub marked-requires : goal.marked-requires
marked-requires c =
    let below : value c.args.y < p = wide_below c.args.y in
    omega (arith, c.words.ensures, below)
