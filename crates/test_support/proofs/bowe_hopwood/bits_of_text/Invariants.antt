use Rattle.std.proofs.Common.{◌≡◌, take}
use Rattle.ark_pedersen.specs.Pedersen.{bits_of_bytes}
use Rattle.test_support.proofs.bowe_hopwood.bits_of_text.Given as goal

abbrev pub invariant-loop-byte : goal.invariant-loop-byte
invariant-loop-byte l = l.bits.items ≡ bits_of_bytes (take l.byte-index l.bytes)
