-- A text cut into all its blocks, as the plain functions cut it.
use Rattle.std.proofs.Common.{◌≡◌, ℕ, ◌+◌, ◌-◌, ◌*◌, ◌<◌, List, [], ◌∷◌, ◌++◌, length, map, take, drop, replicate, slice_index, refl, sym, ◌∙◌, arith, true, false, add-one, zero-add}
use Rattle.std.specs.List.{range_with_len}
use Rattle.std.specs.Prelude.{slice_index_or}
use Rattle.std.proofs.lemmas.List.{same_lists, get_or_default, length-append, length-replicate, length-take}
use Rattle.std.proofs.lemmas.List.FromFn.{map-range_with_len_more}
use Rattle.ark_schemes.specs.Blake2s.{compression, words_from, full_block, block_count, blocks, state_after, last_state}
use Rattle.ark_schemes.proofs.Texts.{full_block-at}

-- 64 bytes that are those of a list, and zeros behind them
pub full_block-bytes : (bytes block : List ℕ) → length block ≡ 64 → ((k : ℕ) → k < 64 → slice_index block k
    ≡ slice_index bytes k) → block ≡ full_block (take 64 bytes)
full_block-bytes bytes block len same =
    let size : length (full_block (take 64 bytes)) ≡ 64 = omega (
      arith,
      length-append (take 64 bytes)
          (replicate (64 - length (take 64 bytes)) 0),
      length-take 64 bytes,
      length-replicate {A =
          ℕ} (64 - length (take 64 bytes)) 0,
    ) in
    same_lists block (full_block (take 64 bytes)) (len ∙ sym size) (λ k d lt.
    get_or_default block k d 0 lt ∙ same k (omega arith) ∙ sym (rw (zero-add) at (full_block-at bytes 0 k
    (omega arith))) ∙ get_or_default (full_block (take 64 bytes)) k 0 d (omega arith))

-- the first n blocks of a text
abbrev pub first_blocks : List ℕ → ℕ → List (List ℕ)
first_blocks text n = map (λ i. words_from (full_block (take 64 (drop (64 * i) text))) 0) (range_with_len 0 n)

-- one block more of a text
pub first_blocks_more : (text : List ℕ) (items : List (List ℕ)) (i : ℕ) (block words : List ℕ) → items ≡ first_blocks
    text i → block ≡ full_block (take 64 (drop (64 * i) text)) → words ≡ words_from block 0
    → items ++ words ∷ [] ≡ first_blocks text (i + 1)
first_blocks_more text items i block words so_far is_block are_words =
    rw (so_far, are_words, is_block) (sym (map-range_with_len_more
    (λ i. words_from (full_block (take 64 (drop (64 * i) text))) 0) 0 i i (omega arith)))

-- all blocks of a text
pub first_blocks_all : (text : List ℕ) (n : ℕ) → n ≡ block_count (length text) → first_blocks text n ≡ blocks text
unfolding blocks
first_blocks_all text n all = rw (all) refl

-- one block more
pub state_after-next : (h : List ℕ) (d : List (List ℕ)) (i : ℕ) (before after : List ℕ) → before ≡ state_after h d i
    → after ≡ compression before (slice_index_or d i []) (64 * (i + 1)) false → after ≡ state_after h d (i + 1)
unfolding state_after
state_after-next h d i before after held e = rw (add-one, e, held) refl

-- the last block
pub last_state-end : (h : List ℕ) (d : List (List ℕ)) (i : ℕ) (before after : List ℕ) (len : ℕ) → i ≡ length d - 1
    → before ≡ state_after h d i → after ≡ compression before (slice_index_or d (length d - 1) []) len true → after
    ≡ last_state h d len
last_state-end h d i before after len at held e = rw (e, held, at) refl
