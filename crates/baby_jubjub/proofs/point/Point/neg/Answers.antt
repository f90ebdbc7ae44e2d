use Rattle.std.proofs.Common.{ℕ, sym, subst}
use Rattle.baby_jubjub.specs.BabyJubjub.{IsOnBabyJubjub}
use Rattle.baby_jubjub.specs.Points.{coordinates}
use Rattle.baby_jubjub.specs.Values.{value}
use Rattle.baby_jubjub.proofs.Carried.{negative_on}
use Rattle.baby_jubjub.proofs.point.Point.neg.Goals as goal

pub of-requires : goal.of-requires
of-requires c =
    subst (λ (x : ℕ). IsOnBabyJubjub (record { x = x; y = value c.args.self.y })) (sym c.neg.ensures)
    (negative_on (coordinates c.args.self) c.args.self.on_curve)
