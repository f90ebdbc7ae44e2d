use Rattle.std.proofs.Common.{◌≡◌}
use Rattle.ark_schemes.specs.Blake2s.{state_after}
use Rattle.test_support.proofs.blake2s.hash_blocks.Given as goal

abbrev pub invariant-whole : goal.invariant-whole
invariant-whole l = l.h ≡ state_after l.fn.h l.blocks l.i
