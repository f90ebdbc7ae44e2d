-- A text, its words and its blocks.
use Rattle.std.proofs.Common.{◌≡◌, ℕ, zero, suc, ◌+◌, ◌-◌, ◌*◌, ◌<◌, ◌≤◌, List, [], length, map, take, drop, replicate, slice_index, refl, sym, ◌∙◌, arith, inl, inr, true, false, add-one, add-zero, zero-add, add_assoc}
use Rattle.std.specs.List.{range_with_len}
use Rattle.std.specs.Prelude.{slice_index_or}
use Rattle.std.proofs.lemmas.Bool.{cases_lt}
use Rattle.std.proofs.lemmas.List.{get_or_append_left, get_or-append_right, get_or-take, get_or-drop, get_or_past, length-take, length-drop}
use Rattle.std.proofs.lemmas.List.FromFn.{fill_by_all, get_or-map-range_with_len, length-map-range_with_len}
use Rattle.ark_schemes.specs.Blake2s.{compression, word_from, words_from, full_block, block_count, blocks, state_after, last_state}

-- words of the same bytes
pub word_from-same : (b c : List ℕ) (i j : ℕ) → ((k : ℕ) → k < 4 → slice_index b (i + k) ≡ slice_index c (j + k))
    → word_from b i ≡ word_from c j
word_from-same b c i j same =
    let first : slice_index b i ≡ slice_index c j = simp add-zero at (same 0 (omega arith)) in
    rw (first, same 1 (omega arith), same 2 (omega arith), same 3 (omega arith)) refl

-- sixteen words of the same bytes
pub words_from-same : (b c : List ℕ) (i j : ℕ) → ((k : ℕ) → k < 64 → slice_index b (i + k) ≡ slice_index c (j + k))
    → words_from b i ≡ words_from c j
unfolding words_from
words_from-same b c i j same =
    fill_by_all (λ k. word_from c (j + 4 * k)) (map (λ k. word_from b (i + 4 * k)) (range_with_len 0 16)) 16 0
    (length-map-range_with_len (λ k. word_from b (i + 4 * k)) 0 16)
    (λ k lt. get_or-map-range_with_len (λ k. word_from b (i + 4 * k)) 0 16 k k 0 lt (omega arith)
    ∙ word_from-same b c (i + 4 * k) (j + 4 * k) (λ n below.
    rw (add_assoc i (4 * k) n, add_assoc j (4 * k) n) (same (4 * k + n) (omega arith))))

-- an array that was full_block word by word
pub words_are : (b : List ℕ) (i : ℕ) (words : List ℕ) → length words ≡ 16 → ((k : ℕ) → k < 16 → slice_index words k
    ≡ word_from b (i + 4 * k)) → words ≡ words_from b i
unfolding words_from
words_are b i words len loaded = fill_by_all (λ k. word_from b (i + 4 * k)) words 16 0 len loaded

zero-at : (n k : ℕ) → slice_index (replicate n 0) k ≡ 0
zero-at zero k = refl
zero-at (suc n) zero = refl
zero-at (suc n) (suc k) = zero-at n k

-- the bytes of a block of a text are the text's, and zeros past its end
pub full_block-at : (text : List ℕ) (p k : ℕ) → k < 64 → slice_index (full_block (take 64 (drop p text))) k
    ≡ slice_index text (p + k)
full_block-at text p k lt =
    let block : List ℕ = take 64 (drop p text) in
    let zeros : List ℕ = replicate (64 - length block) 0 in
    elim (cases_lt k (length block)) [
      | inl within ↦ get_or_append_left block zeros 0 k within ∙ get_or-take 64 (drop p text) k 0 lt
          ∙ get_or-drop p text k 0
      | inr past ↦
          let none : length (drop p text) ≤ k = omega (arith, length-take 64 (drop p text)) in
          let beyond : length text ≤ p + k = omega (arith, length-drop p text) in
          get_or-append_right block zeros (length block) k 0 refl past ∙ zero-at (64 - length block) (k - length block)
          ∙ sym (get_or_past text (p + k) 0 beyond)
    ]

pub length-blocks : (text : List ℕ) → length (blocks text) ≡ block_count (length text)
unfolding blocks
length-blocks text = length-map-range_with_len (λ i. words_from (full_block (take 64 (drop (64 * i) text))) 0) 0
    (block_count (length text))

-- a block's words are the text's
pub block_at : (text : List ℕ) (i : ℕ) → i < block_count (length text) → slice_index_or (blocks text) i []
    ≡ words_from text (64 * i)
unfolding blocks
block_at text i lt =
    get_or-map-range_with_len (λ i. words_from (full_block (take 64 (drop (64 * i) text))) 0) 0
    (block_count (length text)) i i [] lt (omega arith)
    ∙ words_from-same (full_block (take 64 (drop (64 * i) text))) text 0 (64 * i) (λ k below. rw (zero-add)
    (full_block-at text (64 * i) k below))

-- ---- a state, block by block

-- no block before the first
pub state_after-none : (h : List ℕ) (d : List (List ℕ)) → h ≡ state_after h d 0
unfolding state_after
state_after-none h d = refl

-- one block more
pub state_after-more : (h : List ℕ) (text : List ℕ) (i : ℕ) (before words after : List ℕ) (t : ℕ) → i < block_count
    (length text)
    → before ≡ state_after h (blocks text) i → words ≡ words_from text (64 * i) → t ≡ 64 * (i + 1) → after
    ≡ compression before words t false → after ≡ state_after h (blocks text) (i + 1)
unfolding state_after
state_after-more h text i before words after t lt held read counter e =
    rw (add-one, e, held, read, counter, block_at text i lt) refl

-- the last block, at place p
pub last_state-block : (h : List ℕ) (text : List ℕ) (i p : ℕ) (before words after : List ℕ) (t : ℕ) → i + 1
    ≡ block_count (length text) → p ≡ 64 * i
    → before ≡ state_after h (blocks text) i → words ≡ words_from text p → t ≡ length text → after ≡ compression before
    words t true → after ≡ last_state h (blocks text) (length text)
last_state-block h text i p before words after t last place held read counter e =
    let at : length (blocks text) - 1 ≡ i = omega (arith, length-blocks text) in
    rw (at, e, held, read, counter, place, block_at text i (omega arith)) refl
