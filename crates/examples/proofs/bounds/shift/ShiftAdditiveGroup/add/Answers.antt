use Rattle.examples.specs.Shifts.{same_shift}
use Rattle.examples.proofs.bounds.shift.ShiftAdditiveGroup.add.Goals as goal

pub returns : goal.returns
returns g c = same_shift _ _ c.add.ensures
