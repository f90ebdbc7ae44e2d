-- A text that grows piece by piece, its blocks and the buffer of the last one.
use Rattle.std.proofs.Common.{◌≡◌, ℕ, zero, suc, ◌+◌, ◌-◌, ◌*◌, ◌/◌, ◌%◌, ◌^◌, ◌<◌, ◌≤◌, List, [], ◌++◌, length, take}
use Rattle.std.proofs.Common.{drop, replicate, slice_index, refl, sym, ap, ◌∙◌, arith, false, true, zero-add}
use Rattle.std.proofs.Common.{length-append, length-drop}
use Rattle.std.specs.Prelude.{slice_index_or, slice_range}
use Rattle.std.proofs.lemmas.List.{append_assoc, get_or_append_left, get_or-take, get_or-drop, take_all, take_at}
use Rattle.std.proofs.lemmas.List.{drop_at, drop-replicate, drop-append-le, drop-drop, length-take-le}
use Rattle.std.proofs.Math.Seq.{take-append-add, drop-append-add}
use Rattle.ark_schemes.specs.Blake2s.{compression, words_from, full_block, block_count, blocks, first_state}
use Rattle.ark_schemes.specs.Blake2s.{state_after, state_bytes, blake2s_with}
use Rattle.ark_schemes.specs.Hashers.{hasher_of, bytes_before_last}
use Rattle.ark_schemes.specs.declared.prf.blake2s.hasher.Hasher.{Hasher}
use Rattle.ark_schemes.proofs.Texts.{words_from-same, full_block-at, block_at, state_after-more, last_state-block}

-- a list with others in the place of so many of its numbers, from a place on
abbrev pub written_over : ℕ → ℕ → List ℕ → List ℕ → List ℕ
written_over place count xs ys = take place xs ++ (ys ++ drop count (drop place xs))

-- the first blocks of a text that grows stay as they are
pub state_after-append : (h text more : List ℕ) (n : ℕ) → 64 * n ≤ length text
    → state_after h (blocks (text ++ more)) n ≡ state_after h (blocks text) n
unfolding state_after
state_after-append h text more zero whole = refl
state_after-append h text more (suc n) whole =
    let len = length-append text more in
    let same : slice_index_or (blocks (text ++ more)) n [] ≡ slice_index_or (blocks text) n [] =
    block_at (text ++ more) n (omega arith)
    ∙ words_from-same (text ++ more) text (64 * n) (64 * n)
    (λ k lt. get_or_append_left text more 0 (64 * n + k) (omega arith))
    ∙ sym (block_at text n (omega arith)) in
    rw (same, state_after-append h text more n (omega arith)) refl

-- bytes written behind those of a block
pub full_block-put : (a b block : List ℕ) (k j : ℕ) → block ≡ full_block a → k ≡ length a → j ≡ length b
    → length a + length b ≤ 64 → written_over k j block b ≡ full_block (a ++ b)
full_block-put a b block k j held at size room =
    let front : take k block ≡ a = rw held (take_at a (replicate (64 - length a) 0) k (sym at)) in
    let behind : drop k block ≡ replicate (64 - length a) 0 =
    rw held (drop_at a (replicate (64 - length a) 0) k (sym at)) in
    let left : 64 - length a - j ≡ 64 - length (a ++ b) = omega (arith, length-append a b) in
    rw (front, behind, drop-replicate {X = ℕ} j (64 - length a) 0, left)
    (sym (append_assoc a b (replicate (64 - length (a ++ b)) 0)))

-- ---- the blocks of bytes behind others

-- a block of 64 bytes that a text has from byte p on
words_of_full : (text block : List ℕ) (p : ℕ) → block ≡ full_block (take 64 (drop p text))
    → words_from block 0 ≡ words_from text p
words_of_full text block p held =
    rw held (words_from-same (full_block (take 64 (drop p text))) text 0 p
    (λ k lt. rw zero-add (full_block-at text p k lt)))

-- a block of the bytes behind the first p
words_behind : (text bytes : List ℕ) (p j k : ℕ) → bytes ≡ drop p text → k ≡ j + 64
    → words_from (slice_range bytes j k) 0 ≡ words_from text (p + j)
words_behind text bytes p j k rest width =
    words_from-same (slice_range bytes j k) text 0 (p + j) (λ n lt.
    let at : p + (j + n) ≡ p + j + n = omega arith in
    rw (zero-add) (get_or-take (k - j) (drop j bytes) n 0 (omega arith) ∙ get_or-drop j bytes n 0
    ∙ (rw rest (get_or-drop p text (j + n) 0)) ∙ ap (slice_index text) at))

-- one more of the blocks behind n
module _ (first text bytes before words after : List ℕ) (n i p j k t : ℕ) where
  pub state_after-behind : length text < 2 ^ 64 → bytes ≡ drop p text → p ≡ 64 * n → j ≡ 64 * i → k ≡ 64 * (i + 1)
      → k < length bytes → t ≡ (p + k) % 2 ^ 64 → before ≡ state_after first (blocks text) (n + i)
      → words ≡ words_from (slice_range bytes j k) 0 → after ≡ compression before words t false
      → after ≡ state_after first (blocks text) (n + (i + 1))
  state_after-behind fits rest whole start end within count held read e =
      let size : length bytes ≡ length text - p = ap length rest ∙ length-drop p text in
      let at : p + j ≡ 64 * (n + i) = omega arith in
      let next : n + i + 1 ≡ n + (i + 1) = omega arith in
      rw (← next) (state_after-more first text (n + i) before words after t (omega arith)
      held (read ∙ words_behind text bytes p j k rest (omega arith) ∙ ap (words_from text) at) (omega arith) e)

-- ---- the hasher of a text

pub state_of : (salt person text : List ℕ) (s : Hasher) → s ≡ hasher_of salt person text
    → s.state ≡ state_after (first_state salt person) (blocks text) (block_count (length text) - 1)
unfolding hasher_of
state_of salt person text s held = ap (λ (r : Hasher). r.state) held

pub block_of : (salt person text : List ℕ) (s : Hasher) → s ≡ hasher_of salt person text
    → s.block ≡ full_block (drop (bytes_before_last (length text)) text)
unfolding hasher_of
block_of salt person text s held = ap (λ (r : Hasher). r.block) held

pub len_of : (salt person text : List ℕ) (s : Hasher) → s ≡ hasher_of salt person text
    → s.len ≡ length text
unfolding hasher_of
len_of salt person text s held = ap (λ (r : Hasher). r.len) held

-- a hasher by its fields
pub hasher_by : (salt person text : List ℕ) (s : Hasher)
    → s.state ≡ state_after (first_state salt person) (blocks text) (block_count (length text) - 1)
    → s.block ≡ full_block (drop (bytes_before_last (length text)) text) → s.len ≡ length text
    → s ≡ hasher_of salt person text
unfolding hasher_of
hasher_by salt person text s state block len = λ i. record { state = state i; block = block i; len = len i }

-- how many blocks stand in front of a text's last one, and the bytes of that
abbrev last_block : List ℕ → ℕ
last_block text = block_count (length text) - 1

abbrev last_bytes : List ℕ → List ℕ
last_bytes text = drop (64 * last_block text) text

length-last : (text : List ℕ) → length (last_bytes text) ≡ length text - 64 * last_block text
length-last text = length-drop (64 * last_block text) text

last-grown : (text input : List ℕ) → drop (64 * last_block text) (text ++ input) ≡ last_bytes text ++ input
last-grown text input = drop-append-le (64 * last_block text) text input (omega arith)

-- bytes for which the block has room
module _ (salt person text input : List ℕ) (s n : Hasher) where
  pub hasher_of-append : (used j : ℕ)
      → s ≡ hasher_of salt person text
      → used ≡ length text - bytes_before_last (length text)
      → used + length input ≤ 64
      → j ≡ length input
      → length text + length input < 2 ^ 64
      → n.state ≡ s.state
      → n.block ≡ written_over used j s.block input
      → n.len ≡ (s.len + length input) % 2 ^ 64
      → n ≡ hasher_of salt person (text ++ input)
  hasher_of-append used j held at room width fits state block count_kept =
      let size = length-append text input in
      let size_behind = length-last text in
      let len : n.len ≡ length (text ++ input) = omega (arith, len_of salt person text s held) in
      let count : last_block (text ++ input) ≡ last_block text = omega arith in
      let put = full_block-put (last_bytes text) input s.block used j (block_of salt person text s held) (omega arith)
      width (omega arith) in
      hasher_by salt person (text ++ input) n
      (rw count (state ∙ state_of salt person text s held
      ∙ sym (state_after-append (first_state salt person) text input (last_block text) (omega arith))))
      (rw (count, last-grown text input) (block ∙ put))
      len

-- a block that was begun is full, and a further byte follows
module _ (salt person text input block words after : List ℕ) (s : Hasher) (used room j t : ℕ) (held : s ≡ hasher_of
    salt person text) where
  pub state_after-filled : used ≡ length text - bytes_before_last (length text)
      → used + room ≡ 64
      → 0 < used
      → room < length input
      → j ≡ room
      → length text + length input < 2 ^ 64
      → block ≡ written_over used j s.block (take room input)
      → words ≡ words_from block 0
      → t ≡ (s.len + room) % 2 ^ 64
      → after ≡ compression s.state words t false
      → after ≡ state_after (first_state salt person) (blocks (text ++ input)) ((length text + (64 - used) % 64) / 64)
  state_after-filled at full some more width fits put read count e =
      let i : ℕ = last_block text in
      let behind : List ℕ = last_bytes text in
      let size = length-append text input in
      let size_behind = length-last text in
      let size_front : length (take room input) ≡ room = length-take-le room input (omega arith) in
      let ends : 64 ≡ length behind + room = omega arith in
      let front : take 64 (behind ++ input) ≡ behind ++ take room input =
      ap (λ (n : ℕ). take n (behind ++ input)) ends ∙ take-append-add behind input room in
      let written : block ≡ full_block (behind ++ take room input) =
      put ∙ full_block-put behind (take room input) s.block used j (block_of salt person text s held) (omega arith)
      (omega arith) (omega arith) in
      let of_text : words ≡ words_from (text ++ input) (64 * i) =
      read ∙ words_of_full (text ++ input) block (64 * i) (rw (last-grown text input, front) written) in
      let next : (length text + (64 - used) % 64) / 64 ≡ i + 1 = omega arith in
      rw next (state_after-more (first_state salt person) (text ++ input) i s.state words after t (omega arith)
      (state_of salt person text s held ∙ sym (state_after-append (first_state salt person) text input i (omega arith)))
      of_text (omega (arith, len_of salt person text s held)) e)

-- a block that holds nothing
pub state_after-unfilled : (salt person text input : List ℕ) (s : Hasher) (used : ℕ)
    → s ≡ hasher_of salt person text
    → used ≡ length text - bytes_before_last (length text) → used ≡ 0
    → s.state ≡ state_after (first_state salt person) (blocks (text ++ input)) ((length text + (64 - used) % 64) / 64)
state_after-unfilled salt person text input s used held at none =
    let same : (length text + (64 - used) % 64) / 64 ≡ last_block text = omega arith in
    rw same (state_of salt person text s held
    ∙ sym (state_after-append (first_state salt person) text input (last_block text) (omega arith)))

-- what stands behind all blocks but the last
pub hasher_of-behind : (salt person text input : List ℕ) (n : Hasher) (start taken : ℕ) → start < length input
    → (length text + start) % 64 ≡ 0
    → taken ≡ bytes_before_last (length (drop start input))
    → n.state ≡ state_after (first_state salt person) (blocks (text ++ input))
    (block_count (length (text ++ input)) - 1)
    → n.block ≡ full_block (drop taken (drop start input)) → n.len ≡ length text + length input
    → n ≡ hasher_of salt person (text ++ input)
hasher_of-behind salt person text input n start taken within whole front state block len =
    let size = length-append text input in
    let size_behind : length (drop start input) ≡ length input - start = length-drop start input in
    let at : bytes_before_last (length (text ++ input)) ≡ length text + (start + taken) = omega arith in
    let last : drop taken (drop start input) ≡ drop (bytes_before_last (length (text ++ input))) (text ++ input) =
    drop-drop taken start input ∙ sym (rw at (drop-append-add text input (start + taken))) in
    hasher_by salt person (text ++ input) n state (block ∙ ap full_block last) (len ∙ sym size)

-- the digest of the text
pub blake2s_with-hasher : (salt person text words after : List ℕ) (s : Hasher)
    → s ≡ hasher_of salt person text → words ≡ words_from s.block 0
    → after ≡ compression s.state words s.len true → state_bytes after ≡ blake2s_with salt person text
unfolding blake2s_with
blake2s_with-hasher salt person text words after s held read e =
    let i : ℕ = last_block text in
    let all : take 64 (last_bytes text) ≡ last_bytes text =
    take_all 64 (last_bytes text) (omega (arith, length-last text)) in
    let of_text : words ≡ words_from text (64 * i) =
    read ∙ words_of_full text s.block (64 * i) (rw all (block_of salt person text s held)) in
    ap state_bytes (last_state-block (first_state salt person) text i (64 * i) s.state words after s.len (omega arith)
    refl (state_of salt person text s held) of_text (len_of salt person text s held) e)
