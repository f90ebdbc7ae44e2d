-- Baby Jubjub on the curve whose first coefficient is -1.
use Rattle.std.proofs.Common.{◌≡◌, ℕ, ◌*◌, ◌%◌, ◌<◌, ap, sym, ◌∙◌, lit<}
use Rattle.ark_groups.specs.Group.{times}
use Rattle.edwards.specs.Edwards.{Coordinates, IsOnCurve, neutral, negative, sum, edwards}
use Rattle.edwards.specs.Curves.{IsCommutativeGroupOn}
use Rattle.edwards.specs.Laws.Completeness.{has_inverses}
use Rattle.edwards.specs.Laws.CurveLaws.{same_coordinates}
use Rattle.edwards.specs.Laws.Quotients.{HasInverses}
use Rattle.baby_jubjub.specs.BabyJubjub.{p, d, order, factor, one_over_factor, curve, scaled, base8, generator}
use Rattle.baby_jubjub.specs.BabyJubjub.{IsOnBabyJubjub}
use Rattle.baby_jubjub.specs.Laws.Curve.{baby_jubjub_is_complete, baby_jubjub_factor}
use Rattle.baby_jubjub.specs.Laws.Base.{base8_on, generator_on, scaled_of_order, scaled_of_generator}
use Rattle.baby_jubjub.proofs.Scaling as scaling

pub inverses : HasInverses p
inverses = has_inverses p d baby_jubjub_is_complete

pub sum_is : (q r : Coordinates) → scaled (curve.plus q r) ≡ sum p d (scaled q) (scaled r)
sum_is = scaling.scaled_sum p 168700 168696 d factor one_over_factor baby_jubjub_factor

pub times_is : (n : ℕ) (q : Coordinates) → scaled (times curve n q) ≡ times (edwards p d) n (scaled q)
times_is = scaling.scaled_times p 168700 168696 d factor one_over_factor baby_jubjub_factor

pub negative_is : (q : Coordinates) → q.x < p → scaled (negative p q) ≡ negative p (scaled q)
negative_is = scaling.scaled_negative p 168700 168696 d factor one_over_factor baby_jubjub_factor

pub neutral_is : scaled neutral ≡ neutral
neutral_is = scaling.scaled_neutral p 168700 168696 d factor one_over_factor baby_jubjub_factor

pub carried_on : (q : Coordinates) → IsOnBabyJubjub q → IsOnCurve p d (scaled q)
carried_on = scaling.scaled_on p 168700 168696 d factor one_over_factor baby_jubjub_factor

pub one_carried : (q r : Coordinates) → q.x < p → r.x < p → scaled q ≡ scaled r → q ≡ r
one_carried = scaling.same_scaled p 168700 168696 d factor one_over_factor baby_jubjub_factor

pub back : (x : ℕ) → x < p → one_over_factor * (factor * x % p) % p ≡ x
back = scaling.back_again p 168700 168696 d factor one_over_factor baby_jubjub_factor

pub sum_on : (q r : Coordinates) → IsOnBabyJubjub q → IsOnBabyJubjub r → IsOnBabyJubjub (curve.plus q r)
sum_on = scaling.sum_on p 168700 168696 d factor one_over_factor baby_jubjub_factor baby_jubjub_is_complete

pub neutral_on : IsOnBabyJubjub neutral
neutral_on = scaling.neutral_on p 168700 168696 d factor one_over_factor baby_jubjub_factor baby_jubjub_is_complete

pub negative_on : (q : Coordinates) → IsOnBabyJubjub q → IsOnBabyJubjub (negative p q)
negative_on = scaling.negative_on p 168700 168696 d factor one_over_factor baby_jubjub_factor baby_jubjub_is_complete

pub times_on : (n : ℕ) (q : Coordinates) → IsOnBabyJubjub q → IsOnBabyJubjub (times curve n q)
times_on = scaling.times_on p 168700 168696 d factor one_over_factor baby_jubjub_factor baby_jubjub_is_complete

pub laws : IsCommutativeGroupOn IsOnBabyJubjub curve
laws = scaling.group_laws p 168700 168696 d factor one_over_factor baby_jubjub_factor baby_jubjub_is_complete

-- the point of coordinates that come back
pub returned : (x x' y : ℕ) (q : Coordinates) → IsOnBabyJubjub q → x' ≡ (scaled q).x → x ≡ one_over_factor * x' % p
    → y ≡ q.y → record { x = x; y = y } ≡ q
returned x x' y q on is_x' is_x is_y =
    same_coordinates (record { x = x; y = y }) q
    (is_x ∙ ap (λ n. one_over_factor * n % p) is_x' ∙ back q.x on.x_below) is_y

-- ---- Base8

pub base8_of_order : times curve order base8 ≡ neutral
base8_of_order =
    one_carried (times curve order base8) neutral (times_on order base8 base8_on).x_below (lit< tt)
    (times_is order base8 ∙ scaled_of_order ∙ sym neutral_is)

pub base8_of_generator : times curve 8 generator ≡ base8
base8_of_generator =
    one_carried (times curve 8 generator) base8 (times_on 8 generator generator_on).x_below base8_on.x_below
    (times_is 8 generator ∙ scaled_of_generator)
