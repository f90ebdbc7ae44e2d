use Rattle.std.proofs.Common.{◌≡◌, ℕ, ◌<◌, ◌*◌, length, slice_index}
use Rattle.sha2.specs.Sha256.{word_at}
use Rattle.sha256_lanes.proofs.texts.text_words.Given as goal

abbrev pub invariant-load : goal.invariant-load
invariant-load l = (length l.w ≡ 16) × ((k : ℕ) → k < l.k → slice_index l.w k ≡ word_at l.block (4 * k))
