use Rattle.std.proofs.Common.{◌≡◌, ◌++◌, length}
use Rattle.ark_bowe_hopwood.specs.BoweHopwood.{chunks_of}
use Rattle.test_support.proofs.bowe_hopwood.chunks_of.Given as goal

-- what was put, and what is still to be put, are the whole
abbrev pub invariant-loop-rest : goal.invariant-loop-rest
invariant-loop-rest l = l.chunks.items ++ chunks_of l.rest ≡ chunks_of l.bits

abbrev pub decreases-loop-rest : goal.decreases-loop-rest
decreases-loop-rest l = length l.rest
