-- The generator is in the prime subgroup, by computation.
use Rattle.std.proofs.Common.{◌≡◌, ◌^◌, ◌<◌, refl, ◌∙◌, lit<}
use Rattle.edwards.specs.Laws.Ladder.{ladder, multiple_is}
use Rattle.jubjub.specs.Edwards.{neutral}
use Rattle.jubjub.specs.Jubjub.{p, d, order, base_point, IsOnJubjub, IsInSubgroup}
use Rattle.jubjub.specs.Laws.Completeness.{jubjub_is_complete}

on_curve : IsOnJubjub base_point
on_curve = record { x_below = lit< tt; y_below = lit< tt; equation = refl }

-- 252 doublings and as many sums as the order has digits 1
computed : ladder p d jubjub_is_complete 252 order base_point ≡ neutral
unfolding order
computed = refl

order_fits : order < 2 ^ 252
unfolding order
order_fits = lit< tt

pub generator_in_subgroup : IsInSubgroup base_point
generator_in_subgroup = record {
  on_curve = on_curve;
  of_order = multiple_is p d jubjub_is_complete 252 order base_point on_curve order_fits ∙ computed;
}
