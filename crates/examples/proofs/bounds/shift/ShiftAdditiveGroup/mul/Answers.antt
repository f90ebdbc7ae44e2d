use Rattle.std.proofs.Common.{◌∙◌, sym}
use Rattle.examples.specs.Shifts.{same_shift, shift-times}
use Rattle.examples.proofs.bounds.shift.ShiftAdditiveGroup.mul.Goals as goal

pub returns : goal.returns
returns g c = same_shift _ _ (c.mul.ensures ∙ sym (shift-times _ _))
