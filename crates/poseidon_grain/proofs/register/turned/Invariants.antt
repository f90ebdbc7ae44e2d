use Rattle.std.proofs.Common.{◌≡◌}
use Rattle.poseidon_grain.specs.Grain.{turned}
use Rattle.poseidon_grain.proofs.register.turned.Given as goal

abbrev pub invariant-loop-place : goal.invariant-loop-place
invariant-loop-place l = l.result ≡ turned l.place l.number
