use Rattle.ed25519.specs.Claims.{HoldBelow}
use Rattle.ed25519.proofs.many.verify_many.Given as goal

-- the claims so far hold
abbrev pub invariant-loop-i : goal.invariant-loop-i
invariant-loop-i l = HoldBelow l.claims l.i
