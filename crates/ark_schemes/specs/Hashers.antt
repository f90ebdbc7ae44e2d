-- A hasher of BLAKE2s and the text that it has taken piece by piece. Numbers in brackets are sections of RFC 7693.
use Rattle.std.specs.Prelude.{◌≡◌, ℕ, ◌-◌, ◌*◌, List, length, drop, replicate}
use Rattle.ark_schemes.specs.Blake2s.{block_count, full_block, blocks, first_state, state_after}
use Rattle.ark_schemes.specs.declared.prf.blake2s.Blake2s256.{Blake2s256}
use Rattle.ark_schemes.specs.declared.prf.blake2s.hasher.Hasher.{Hasher}

-- how many bytes of a text of n bytes stand before its last block (3.3)
abbrev pub bytes_before_last : ℕ → ℕ
bytes_before_last n = 64 * (block_count n - 1)

-- the hasher of a text: the state after all blocks but the last, the last block's bytes with zeros behind them up to
-- 64, and the length (3.3)
unfoldable pub hasher_of : List ℕ → List ℕ → List ℕ → Hasher
hasher_of salt personalization text = record {
  state = state_after (first_state salt personalization) (blocks text) (block_count (length text) - 1);
  block = full_block (drop (bytes_before_last (length text)) text);
  len = length text;
}

-- the hasher has taken the text, in whatever pieces it came
abbrev pub HoldsText : Blake2s256 → List ℕ → Type 0
HoldsText s text = s.hasher ≡ hasher_of (replicate 8 0) (replicate 8 0) text

-- each hasher that has taken the text is this one
abbrev pub AloneHoldsText : Blake2s256 → List ℕ → Type 0
AloneHoldsText s text = (other : Blake2s256) → HoldsText other text → other ≡ s
