use Rattle.edwards.specs.Laws.Eighths.{eighth_powers_tell}
use Rattle.edwards.proofs.laws.eighth_powers_tell.Goals as goal

pub returns : goal.returns
returns c = eighth_powers_tell
