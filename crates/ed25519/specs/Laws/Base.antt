-- The base point is on the curve, and its multiple by the order is zero, by computation.
use Rattle.std.proofs.Common.{◌≡◌, ◌^◌, ◌<◌, refl, ◌∙◌, lit<}
use Rattle.ark_groups.specs.Group.{times}
use Rattle.edwards.specs.Edwards.{neutral}
use Rattle.edwards.specs.Laws.Ladder.{ladder, multiple_is}
use Rattle.ed25519.specs.Edwards25519.{p, d, order, curve, base_point, IsOnEd25519}
use Rattle.ed25519.specs.Laws.Curve.{ed25519_is_complete}

pub base_on_curve : IsOnEd25519 base_point
base_on_curve = record { x_below = lit< tt; y_below = lit< tt; equation = refl }

-- 253 doublings and as many sums as the order has digits 1
computed : ladder p d ed25519_is_complete 253 order base_point ≡ neutral
unfolding order
computed = refl

order_fits : order < 2 ^ 253
unfolding order
order_fits = lit< tt

pub base_of_order : times curve order base_point ≡ neutral
base_of_order = multiple_is p d ed25519_is_complete 253 order base_point base_on_curve order_fits ∙ computed
