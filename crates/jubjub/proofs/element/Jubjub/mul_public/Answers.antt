use Rattle.std.proofs.Common.{◌∙◌, sym}
use Rattle.ark_groups.specs.Words.{number}
use Rattle.jubjub.specs.Elements.{coordinates}
use Rattle.jubjub.proofs.GroupLaws.{times_in_subgroup}
use Rattle.jubjub.specs.Laws.Elements.{same_element}
use Rattle.jubjub.specs.Laws.Group.{coordinates-times}
use Rattle.jubjub.proofs.element.Jubjub.mul_public.Goals as goal

pub of_extended-requires : goal.of_extended-requires
of_extended-requires c = (
  _,
  times_in_subgroup (number c.args.scalar) c.args.self,
  c.public_multiple.ensures (coordinates c.args.self) c.args.self.in_subgroup.on_curve c.lifted.ensures,
)

pub returns-clause-coordinates : goal.returns-clause-coordinates
returns-clause-coordinates c =
    c.of_extended.ensures _ (times_in_subgroup (number c.args.scalar) c.args.self)
    (c.public_multiple.ensures (coordinates c.args.self) c.args.self.in_subgroup.on_curve c.lifted.ensures)

pub returns-clause-group : goal.returns-clause-group
returns-clause-group c =
    same_element _ _ (returns-clause-coordinates c ∙ sym (coordinates-times (number c.args.scalar) c.args.self))
