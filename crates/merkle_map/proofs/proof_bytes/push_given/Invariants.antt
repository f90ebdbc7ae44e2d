use Rattle.std.proofs.Common.{◌≡◌, ◌++◌, take}
use Rattle.merkle_map.specs.ProofBytes.{given_bytes}
use Rattle.merkle_map.proofs.proof_bytes.push_given.Given as goal

abbrev pub invariant-digests : goal.invariant-digests
invariant-digests l = l.dest.items ≡ l.initial.dest.items ++ given_bytes l.nothing (take l.digest-index l.siblings)
