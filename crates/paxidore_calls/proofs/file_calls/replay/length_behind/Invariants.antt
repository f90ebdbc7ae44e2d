use Rattle.std.proofs.Common.{◌≡◌, List, ℕ, drop, length}
use Rattle.paxidore_calls.specs.Plan.{carried}
use Rattle.paxidore_calls.proofs.file_calls.replay.length_behind.Given as goal

abbrev pub invariant-loop-step : goal.invariant-loop-step
invariant-loop-step l = (file : List ℕ) → l.fn.file_len ≡ length file
    → (mid : List ℕ) × (l.count ≡ length mid) × (carried (drop l.step-index l.steps) mid ≡ carried l.steps file)
