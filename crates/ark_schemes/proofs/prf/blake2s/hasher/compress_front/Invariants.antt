use Rattle.std.proofs.Common.{◌≡◌, List, ℕ, ◌+◌, ◌*◌, ◌^◌, ◌<◌, length, drop}
use Rattle.ark_schemes.specs.Blake2s.{blocks, state_after}
use Rattle.ark_schemes.proofs.prf.blake2s.hasher.compress_front.Given as goal

abbrev pub invariant-whole : goal.invariant-whole
invariant-whole l = (first text : List ℕ) (n : ℕ) → length text < 2 ^ 64 → l.before ≡ 64 * n
    → l.bytes ≡ drop l.before text → l.fn.state ≡ state_after first (blocks text) n
    → l.state ≡ state_after first (blocks text) (n + l.i)
