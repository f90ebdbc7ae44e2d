use Rattle.std.proofs.Common.{◌≡◌, ◌-◌, drop}
use Rattle.ark_paths.specs.MultiPathStrict.{are_rising}
use Rattle.ark_paths.proofs.multi_path.strict.are_rising.Given as goal

abbrev pub invariant-loop-place : goal.invariant-loop-place
invariant-loop-place l = are_rising l.numbers ≡ are_rising (drop (l.place - 1) l.numbers)
