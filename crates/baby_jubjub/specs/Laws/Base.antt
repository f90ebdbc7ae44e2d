-- Base8 is on the curve, its multiple by the order is zero, and it is eight times the generator, by computation.
use Rattle.std.proofs.Common.{◌≡◌, ◌^◌, ◌<◌, refl, ◌∙◌, lit<}
use Rattle.ark_groups.specs.Group.{times}
use Rattle.edwards.specs.Edwards.{neutral, edwards, IsOnCurve}
use Rattle.edwards.specs.Laws.Ladder.{ladder, multiple_is}
use Rattle.baby_jubjub.specs.BabyJubjub.{p, d, order, factor, base8, generator, IsOnBabyJubjub}
use Rattle.baby_jubjub.specs.Scaled.{scaled_by}
use Rattle.baby_jubjub.specs.Laws.Curve.{baby_jubjub_is_complete}

pub base8_on : IsOnBabyJubjub base8
base8_on = record { x_below = lit< tt; y_below = lit< tt; equation = refl }

pub generator_on : IsOnBabyJubjub generator
generator_on = record { x_below = lit< tt; y_below = lit< tt; equation = refl }

scaled_base8_on : IsOnCurve p d (scaled_by p factor base8)
scaled_base8_on = record { x_below = lit< tt; y_below = lit< tt; equation = refl }

scaled_generator_on : IsOnCurve p d (scaled_by p factor generator)
scaled_generator_on = record { x_below = lit< tt; y_below = lit< tt; equation = refl }

-- 251 doublings and as many sums as the order has digits 1
computed : ladder p d baby_jubjub_is_complete 251 order (scaled_by p factor base8) ≡ neutral
unfolding order
computed = refl

order_fits : order < 2 ^ 251
unfolding order
order_fits = lit< tt

-- the order's multiple of the scaled point is zero
pub scaled_of_order : times (edwards p d) order (scaled_by p factor base8) ≡ neutral
scaled_of_order =
    multiple_is p d baby_jubjub_is_complete 251 order (scaled_by p factor base8) scaled_base8_on order_fits ∙ computed

eight : ladder p d baby_jubjub_is_complete 4 8 (scaled_by p factor generator) ≡ scaled_by p factor base8
eight = refl

-- eight times the scaled generator is the scaled point
pub scaled_of_generator : times (edwards p d) 8 (scaled_by p factor generator) ≡ scaled_by p factor base8
scaled_of_generator =
    multiple_is p d baby_jubjub_is_complete 4 8 (scaled_by p factor generator) scaled_generator_on (lit< tt) ∙ eight
