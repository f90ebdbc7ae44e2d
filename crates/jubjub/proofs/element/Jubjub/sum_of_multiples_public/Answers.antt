use Rattle.std.proofs.Common.{◌∙◌, ap₂, sym}
use Rattle.ark_groups.specs.Group.{times}
use Rattle.ark_groups.specs.Words.{number}
use Rattle.jubjub.specs.Edwards.{sum}
use Rattle.jubjub.specs.Jubjub.{p, d}
use Rattle.jubjub.specs.Elements.{coordinates, jubjub}
use Rattle.jubjub.specs.Laws.Elements.{same_element}
use Rattle.jubjub.specs.Laws.Group.{at-plus, coordinates-times}
use Rattle.jubjub.specs.Laws.Points.{sum_in_subgroup}
use Rattle.jubjub.proofs.GroupLaws.{times_in_subgroup}
use Rattle.jubjub.proofs.element.Jubjub.sum_of_multiples_public.Goals as goal

pub of_extended-requires : goal.of_extended-requires
of_extended-requires c = (
  _,
  sum_in_subgroup _ _ (times_in_subgroup (number c.args.m) c.args.self)
      (times_in_subgroup (number c.args.n) c.args.other),
  c.public_sum_of_multiples.ensures (coordinates c.args.self) (coordinates c.args.other)
      c.args.self.in_subgroup.on_curve c.args.other.in_subgroup.on_curve c.lifted-a.ensures c.lifted-b.ensures,
)

pub returns-clause-coordinates : goal.returns-clause-coordinates
returns-clause-coordinates c =
    c.of_extended.ensures _
    (sum_in_subgroup _ _ (times_in_subgroup (number c.args.m) c.args.self)
    (times_in_subgroup (number c.args.n) c.args.other))
    (c.public_sum_of_multiples.ensures (coordinates c.args.self) (coordinates c.args.other)
    c.args.self.in_subgroup.on_curve c.args.other.in_subgroup.on_curve c.lifted-a.ensures c.lifted-b.ensures)

pub returns-clause-group : goal.returns-clause-group
returns-clause-group c =
    same_element _ _
    (returns-clause-coordinates c
    ∙ ap₂ (sum p d) (sym (coordinates-times (number c.args.m) c.args.self))
    (sym (coordinates-times (number c.args.n) c.args.other))
    ∙ sym (at-plus (times jubjub (number c.args.m) c.args.self) (times jubjub (number c.args.n) c.args.other)))
