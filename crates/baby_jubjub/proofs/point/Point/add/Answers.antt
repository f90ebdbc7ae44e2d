use Rattle.std.proofs.Common.{sym, subst}
use Rattle.edwards.specs.Extended.{Stands}
use Rattle.baby_jubjub.specs.BabyJubjub.{d, curve, scaled}
use Rattle.baby_jubjub.specs.Laws.Curve.{baby_jubjub_is_complete}
use Rattle.baby_jubjub.specs.Points.{coordinates}
use Rattle.baby_jubjub.proofs.Carried.{carried_on, sum_is, sum_on}
use Rattle.baby_jubjub.proofs.point.Point.add.Goals as goal

pub of_embedded-requires : goal.of_embedded-requires
of_embedded-requires c =
    let q = coordinates c.args.self in
    let r = coordinates c.args.other in (
      curve.plus q r,
      sum_on q r c.args.self.on_curve c.args.other.on_curve,
      subst (Stands c.plus.result) (sym (sum_is q r)) (c.plus.ensures d baby_jubjub_is_complete
          c.twice_coefficient.ensures (scaled q) (scaled r) (carried_on q c.args.self.on_curve)
          (carried_on r c.args.other.on_curve) c.embedded.ensures c.embedded-2.ensures),
    )

pub returns : goal.returns
returns c =
    let q = coordinates c.args.self in
    let r = coordinates c.args.other in
    c.of_embedded.ensures (curve.plus q r) (sum_on q r c.args.self.on_curve c.args.other.on_curve)
    (subst (Stands c.plus.result) (sym (sum_is q r)) (c.plus.ensures d baby_jubjub_is_complete
    c.twice_coefficient.ensures (scaled q) (scaled r) (carried_on q c.args.self.on_curve) (carried_on r
    c.args.other.on_curve) c.embedded.ensures c.embedded-2.ensures))
