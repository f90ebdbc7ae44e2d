use Rattle.std.proofs.Common.{◌∙◌, sym}
use Rattle.jubjub.specs.Elements.{coordinates}
use Rattle.jubjub.specs.Laws.Elements.{same_element}
use Rattle.jubjub.specs.Laws.Group.{at-plus}
use Rattle.jubjub.specs.Laws.Points.{sum_in_subgroup}
use Rattle.jubjub.proofs.element.Jubjub.add.Goals as goal

pub of_extended-requires : goal.of_extended-requires
of_extended-requires c = (
  _,
  sum_in_subgroup _ _ c.args.self.in_subgroup c.args.other.in_subgroup,
  c.plus_crossed.ensures (coordinates c.args.self) c.args.self.in_subgroup.on_curve c.args.other.in_subgroup.on_curve
      c.lifted-a.ensures,
)

pub returns-clause-coordinates : goal.returns-clause-coordinates
returns-clause-coordinates c =
    c.of_extended.ensures _ (sum_in_subgroup _ _ c.args.self.in_subgroup c.args.other.in_subgroup)
    (c.plus_crossed.ensures (coordinates c.args.self) c.args.self.in_subgroup.on_curve
    c.args.other.in_subgroup.on_curve c.lifted-a.ensures)

pub returns-clause-group : goal.returns-clause-group
returns-clause-group c =
    same_element _ _ (returns-clause-coordinates c ∙ sym (at-plus c.args.self c.args.other))
