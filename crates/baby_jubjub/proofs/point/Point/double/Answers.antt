use Rattle.std.proofs.Common.{sym, subst}
use Rattle.edwards.specs.Extended.{Stands}
use Rattle.baby_jubjub.specs.BabyJubjub.{d, curve, scaled}
use Rattle.baby_jubjub.specs.Laws.Curve.{baby_jubjub_is_complete}
use Rattle.baby_jubjub.specs.Points.{coordinates}
use Rattle.baby_jubjub.proofs.Carried.{carried_on, sum_is, sum_on}
use Rattle.baby_jubjub.proofs.point.Point.double.Goals as goal

pub of_embedded-requires : goal.of_embedded-requires
of_embedded-requires c =
    let q = coordinates c.args.self in (
      curve.plus q q,
      sum_on q q c.args.self.on_curve c.args.self.on_curve,
      subst (Stands c.doubled.result) (sym (sum_is q q)) (c.doubled.ensures d baby_jubjub_is_complete (scaled q)
          (carried_on q c.args.self.on_curve) c.embedded.ensures),
    )

pub returns : goal.returns
returns c =
    let q = coordinates c.args.self in
    c.of_embedded.ensures (curve.plus q q) (sum_on q q c.args.self.on_curve c.args.self.on_curve)
    (subst (Stands c.doubled.result) (sym (sum_is q q)) (c.doubled.ensures d baby_jubjub_is_complete (scaled q)
    (carried_on q c.args.self.on_curve) c.embedded.ensures))
