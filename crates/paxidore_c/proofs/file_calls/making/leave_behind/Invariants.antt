use Rattle.std.proofs.Common.{drop}
use Rattle.paxidore_calls.proofs.Made.{behind_stays}
use Rattle.paxidore_c.proofs.file_calls.making.leave_behind.Given as goal

abbrev pub invariant-loop-step : goal.invariant-loop-step
invariant-loop-step l = behind_stays l.fn.end (drop l.step-index l.steps) → behind_stays l.fn.end l.steps
