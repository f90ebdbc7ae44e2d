use Rattle.jubjub.specs.Edwards.{neutral}
use Rattle.jubjub.specs.Elements.{jubjub}
use Rattle.jubjub.specs.Laws.Points.{neutral_in_subgroup}
use Rattle.jubjub.proofs.GroupLaws.{entry, made_at, made_is}
use Rattle.jubjub.specs.Laws.Group.{at-identity}
use Rattle.jubjub.proofs.element.Jubjub.zero.Goals as goal

pub of-requires : goal.of-requires
of-requires c = entry c.zero.result c.one.result neutral c.zero.ensures c.one.ensures neutral_in_subgroup

pub returns-clause-group : goal.returns-clause-group
returns-clause-group c =
    made_is c.of.result jubjub.identity c.zero.result c.one.result neutral c.zero.ensures c.one.ensures c.of.ensures
    at-identity

pub returns-clause-coordinates : goal.returns-clause-coordinates
returns-clause-coordinates c =
    made_at c.of.result c.zero.result c.one.result neutral c.zero.ensures c.one.ensures c.of.ensures
