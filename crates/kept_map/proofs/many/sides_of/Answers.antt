use Rattle.std.proofs.Common.{◌+◌, sym, ◌∙◌, subst}
use Rattle.kept_map.specs.Many.{AreSorted}
use Rattle.kept_map.proofs.Rising.{back-is, back-sorted, front-is, front-sorted}
use Rattle.kept_map.proofs.many.sides_of.Goals as goal

pub returns-clause-left : goal.returns-clause-left
returns-clause-left c =
    front-is c.args.level c.args.keys.now c.zeros_of.result c.requires.sorted c.zeros_of.ensures
    ∙ sym c.split_at.ensures.front

pub returns-clause-right : goal.returns-clause-right
returns-clause-right c =
    back-is c.args.level c.args.keys.now c.zeros_of.result c.requires.sorted c.zeros_of.ensures
    ∙ sym c.split_at.ensures.back

pub returns-clause-left_sorted : goal.returns-clause-left_sorted
returns-clause-left_sorted c = subst (AreSorted (c.args.level + 1)) (sym c.split_at.ensures.front)
    (front-sorted c.args.level c.args.keys.now c.zeros_of.result c.requires.sorted c.zeros_of.ensures)

pub returns-clause-right_sorted : goal.returns-clause-right_sorted
returns-clause-right_sorted c = subst (AreSorted (c.args.level + 1)) (sym c.split_at.ensures.back)
    (back-sorted c.args.level c.args.keys.now c.zeros_of.result c.requires.sorted c.zeros_of.ensures)
