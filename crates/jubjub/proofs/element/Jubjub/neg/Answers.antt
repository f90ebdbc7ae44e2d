use Rattle.std.proofs.Common.{refl}
use Rattle.jubjub.specs.Edwards.{negative}
use Rattle.jubjub.specs.Jubjub.{p}
use Rattle.jubjub.specs.Elements.{coordinates, jubjub}
use Rattle.jubjub.specs.Laws.Points.{negative_in_subgroup}
use Rattle.jubjub.proofs.GroupLaws.{entry, made_at, made_is}
use Rattle.jubjub.specs.Laws.Group.{at-opposite}
use Rattle.jubjub.proofs.element.Jubjub.neg.Goals as goal

pub of-requires : goal.of-requires
of-requires c =
    let a = coordinates c.args.self in
    entry c.neg.result c.args.self.y (negative p a) c.neg.ensures refl (negative_in_subgroup a c.args.self.in_subgroup)

pub returns-clause-group : goal.returns-clause-group
returns-clause-group c =
    made_is c.of.result (jubjub.opposite c.args.self) c.neg.result c.args.self.y (negative p (coordinates c.args.self))
    c.neg.ensures refl c.of.ensures (at-opposite c.args.self)

pub returns-clause-coordinates : goal.returns-clause-coordinates
returns-clause-coordinates c =
    made_at c.of.result c.neg.result c.args.self.y (negative p
    (coordinates c.args.self)) c.neg.ensures refl c.of.ensures
