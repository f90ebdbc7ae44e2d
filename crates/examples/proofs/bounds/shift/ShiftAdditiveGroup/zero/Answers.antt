use Rattle.examples.specs.Shifts.{is_none}
use Rattle.examples.proofs.bounds.shift.ShiftAdditiveGroup.zero.Goals as goal

pub returns : goal.returns
returns g c = is_none _ c.zero.ensures
