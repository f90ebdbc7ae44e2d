use Rattle.std.proofs.Common.{◌≡◌, ℕ, ◌<◌, ◌*◌, drop, length, slice_index}
use Rattle.sha2.specs.Sha256.{word_at}
use Rattle.sha256_lanes.proofs.long_texts.block_words.Given as goal

abbrev pub invariant-load : goal.invariant-load
invariant-load l =
    (length l.w ≡ 16) × ((k : ℕ) → k < l.k → slice_index l.w k ≡ word_at (drop l.from l.blocks) (4 * k))
