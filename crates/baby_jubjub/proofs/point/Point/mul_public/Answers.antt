use Rattle.std.proofs.Common.{sym, subst}
use Rattle.ark_groups.specs.Group.{times}
use Rattle.ark_groups.specs.Words.{number}
use Rattle.edwards.specs.Extended.{Stands}
use Rattle.baby_jubjub.specs.BabyJubjub.{d, curve, scaled}
use Rattle.baby_jubjub.specs.Laws.Curve.{baby_jubjub_is_complete}
use Rattle.baby_jubjub.specs.Points.{coordinates}
use Rattle.baby_jubjub.proofs.Carried.{carried_on, times_is, times_on}
use Rattle.baby_jubjub.proofs.point.Point.mul_public.Goals as goal

pub of_embedded-requires : goal.of_embedded-requires
of_embedded-requires c =
    let q = coordinates c.args.self in
    let n = number c.args.scalar in (
      times curve n q,
      times_on n q c.args.self.on_curve,
      subst (Stands c.multiple_public.result) (sym (times_is n q)) (c.multiple_public.ensures d
          baby_jubjub_is_complete
          c.twice_coefficient.ensures (scaled q) (carried_on q c.args.self.on_curve) c.embedded.ensures),
    )

pub returns : goal.returns
returns c =
    let q = coordinates c.args.self in
    let n = number c.args.scalar in
    c.of_embedded.ensures (times curve n q) (times_on n q c.args.self.on_curve)
    (subst (Stands c.multiple_public.result) (sym (times_is n q)) (c.multiple_public.ensures d
    baby_jubjub_is_complete c.twice_coefficient.ensures (scaled q) (carried_on q c.args.self.on_curve)
    c.embedded.ensures))
