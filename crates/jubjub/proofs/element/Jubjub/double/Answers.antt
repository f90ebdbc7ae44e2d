use Rattle.std.proofs.Common.{◌∙◌, sym}
use Rattle.jubjub.specs.Elements.{coordinates}
use Rattle.jubjub.specs.Laws.Elements.{same_element}
use Rattle.jubjub.specs.Laws.Group.{at-plus}
use Rattle.jubjub.specs.Laws.Points.{sum_in_subgroup}
use Rattle.jubjub.specs.Jubjub.{d}
use Rattle.jubjub.specs.Laws.Completeness.{jubjub_is_complete}
use Rattle.jubjub.proofs.element.Jubjub.double.Goals as goal

pub of_extended-requires : goal.of_extended-requires
of_extended-requires c = (
  _,
  sum_in_subgroup _ _ c.args.self.in_subgroup c.args.self.in_subgroup,
  c.doubled.ensures d jubjub_is_complete (coordinates c.args.self) c.args.self.in_subgroup.on_curve c.lifted.ensures,
)

pub returns-clause-coordinates : goal.returns-clause-coordinates
returns-clause-coordinates c =
    c.of_extended.ensures _ (sum_in_subgroup _ _ c.args.self.in_subgroup c.args.self.in_subgroup)
    (c.doubled.ensures d jubjub_is_complete (coordinates c.args.self) c.args.self.in_subgroup.on_curve c.lifted.ensures)

pub returns-clause-group : goal.returns-clause-group
returns-clause-group c =
    same_element _ _ (returns-clause-coordinates c ∙ sym (at-plus c.args.self c.args.self))
