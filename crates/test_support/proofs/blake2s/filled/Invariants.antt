use Rattle.std.proofs.Common.{◌≡◌, ℕ, ◌<◌, length, slice_index}
use Rattle.test_support.proofs.blake2s.filled.Given as goal

abbrev pub invariant-fill : goal.invariant-fill
invariant-fill l = record {
  size : length l.block ≡ 64;
  copied : (j : ℕ) → j < l.k → slice_index l.block j
      ≡ slice_index l.bytes j;
}
