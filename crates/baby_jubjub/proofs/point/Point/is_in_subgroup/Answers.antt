use Rattle.std.proofs.Common.{sym, subst, ◌∙◌, ap, lit<}
use Rattle.ark_groups.specs.Group.{times}
use Rattle.edwards.specs.Edwards.{Coordinates, neutral, edwards}
use Rattle.edwards.specs.Extended.{Stands}
use Rattle.edwards.proofs.Sums.{multiple_on_curve}
use Rattle.baby_jubjub.specs.BabyJubjub.{p, d, order, curve, scaled}
use Rattle.baby_jubjub.specs.Laws.Curve.{baby_jubjub_is_complete}
use Rattle.baby_jubjub.specs.Points.{coordinates}
use Rattle.baby_jubjub.proofs.Carried.{carried_on, neutral_is, one_carried, times_is, times_on}
use Rattle.baby_jubjub.proofs.point.Point.is_in_subgroup.Goals as goal

pub returns : goal.returns
returns c =
    let k = baby_jubjub_is_complete in
    let q = coordinates c.args.self in
    let on = c.args.self.on_curve in
    let s : Coordinates = times (edwards p d) order (scaled q) in
    let stands : Stands c.multiple_public.result s =
    subst (λ n. Stands c.multiple_public.result (times (edwards p d) n (scaled q))) c.order_words.ensures
    (c.multiple_public.ensures d k c.twice_coefficient.ensures (scaled q) (carried_on q on) c.embedded.ensures) in
    let test = c.is_neutral.ensures d k s (multiple_on_curve p d k order (scaled q) (carried_on q on)) stands in (
      λ yes. record {
        on_curve = on;
        of_order = one_carried (times curve order q) neutral (times_on order q on).x_below (lit< tt)
            (times_is order q ∙ test.0 yes ∙ sym neutral_is);
      },
      λ inside. test.1 (sym (times_is order q) ∙ ap scaled inside.of_order ∙ neutral_is),
    )
