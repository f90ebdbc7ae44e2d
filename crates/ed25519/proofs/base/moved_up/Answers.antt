use Rattle.std.proofs.Common.{◌*◌}
use Rattle.ed25519.specs.Edwards25519.{d, base_point}
use Rattle.ed25519.specs.Laws.Curve.{ed25519_is_complete}
use Rattle.ed25519.specs.Laws.Base.{base_on_curve}
use Rattle.edwards.proofs.Digits.{sixteen}
use Rattle.ed25519.proofs.base.moved_up.Goals as goal

pub returns : goal.returns
returns c m of_sum =
    let k = ed25519_is_complete in
    c.with_every_fourth.ensures (16 * m)
    (sixteen d k base_point base_on_curve c.args.sum c.doubled_twice.result c.doubled_twice-2.result m
    (c.doubled_twice.ensures d k) (c.doubled_twice-2.ensures d k) of_sum)
