-- BLAKE2s without a key (RFC 7693), a function of lists of numbers. A text is a list of bytes, a word is a number below
-- 2 ^ 32, and bytes and words meet least byte first (2.4). Numbers in brackets are the RFC's sections.
use Rattle.std.specs.Prelude.{ℕ, zero, suc, ◌+◌, ◌-◌, ◌*◌, ◌/◌, ◌%◌, ◌^◌, max, Bool, true, false, if◌then◌else◌, bit_xor}
use Rattle.std.specs.Prelude.{List, [], ◌∷◌, ◌++◌, length, map, take, drop, replicate, slice_index, slice_index_or, slice_set}
use Rattle.std.specs.List.{flat_map, fold, range_with_len}
use Rattle.std.specs.Int.{w32, bit_not, rotate_right, from_le_bytes, to_le_bytes}

-- ---- constants

-- IV (2.6)
abbrev pub initial_words : List ℕ
initial_words =
    0x6A09E667 ∷ 0xBB67AE85 ∷ 0x3C6EF372 ∷ 0xA54FF53A
    ∷ 0x510E527F ∷ 0x9B05688C ∷ 0x1F83D9AB ∷ 0x5BE0CD19 ∷ []

-- SIGMA (2.7)
abbrev pub sigma : List (List ℕ)
sigma =
    (0 ∷ 1 ∷ 2 ∷ 3 ∷ 4 ∷ 5 ∷ 6 ∷ 7 ∷ 8 ∷ 9 ∷ 10 ∷ 11 ∷ 12 ∷ 13 ∷ 14 ∷ 15 ∷ [])
    ∷ (14 ∷ 10 ∷ 4 ∷ 8 ∷ 9 ∷ 15 ∷ 13 ∷ 6 ∷ 1 ∷ 12 ∷ 0 ∷ 2 ∷ 11 ∷ 7 ∷ 5 ∷ 3 ∷ [])
    ∷ (11 ∷ 8 ∷ 12 ∷ 0 ∷ 5 ∷ 2 ∷ 15 ∷ 13 ∷ 10 ∷ 14 ∷ 3 ∷ 6 ∷ 7 ∷ 1 ∷ 9 ∷ 4 ∷ [])
    ∷ (7 ∷ 9 ∷ 3 ∷ 1 ∷ 13 ∷ 12 ∷ 11 ∷ 14 ∷ 2 ∷ 6 ∷ 5 ∷ 10 ∷ 4 ∷ 0 ∷ 15 ∷ 8 ∷ [])
    ∷ (9 ∷ 0 ∷ 5 ∷ 7 ∷ 2 ∷ 4 ∷ 10 ∷ 15 ∷ 14 ∷ 1 ∷ 11 ∷ 12 ∷ 6 ∷ 8 ∷ 3 ∷ 13 ∷ [])
    ∷ (2 ∷ 12 ∷ 6 ∷ 10 ∷ 0 ∷ 11 ∷ 8 ∷ 3 ∷ 4 ∷ 13 ∷ 7 ∷ 5 ∷ 15 ∷ 14 ∷ 1 ∷ 9 ∷ [])
    ∷ (12 ∷ 5 ∷ 1 ∷ 15 ∷ 14 ∷ 13 ∷ 4 ∷ 10 ∷ 0 ∷ 7 ∷ 6 ∷ 3 ∷ 9 ∷ 2 ∷ 8 ∷ 11 ∷ [])
    ∷ (13 ∷ 11 ∷ 7 ∷ 14 ∷ 12 ∷ 1 ∷ 3 ∷ 9 ∷ 5 ∷ 0 ∷ 15 ∷ 4 ∷ 8 ∷ 6 ∷ 2 ∷ 10 ∷ [])
    ∷ (6 ∷ 15 ∷ 14 ∷ 9 ∷ 11 ∷ 3 ∷ 0 ∷ 8 ∷ 12 ∷ 2 ∷ 13 ∷ 7 ∷ 1 ∷ 4 ∷ 10 ∷ 5 ∷ [])
    ∷ (10 ∷ 2 ∷ 8 ∷ 4 ∷ 7 ∷ 6 ∷ 1 ∷ 5 ∷ 15 ∷ 11 ∷ 9 ∷ 14 ∷ 3 ∷ 12 ∷ 13 ∷ 0 ∷ [])
    ∷ []

-- ---- a block

-- the exclusive or of two words, turned right by k bits (2.3)
abbrev pub rotation : ℕ → ℕ → ℕ → ℕ
rotation k x y = rotate_right w32 (bit_xor x y) k

-- G on four words, with two words x and y of a block (3.1)
unfoldable pub mixture : ℕ → ℕ → ℕ → ℕ → ℕ → ℕ → List ℕ
mixture a b c d x y =
    let a1 : ℕ = (a + b + x) % 2 ^ 32 in
    let d1 : ℕ = rotation 16 d a1 in
    let c1 : ℕ = (c + d1) % 2 ^ 32 in
    let b1 : ℕ = rotation 12 b c1 in
    let a2 : ℕ = (a1 + b1 + y) % 2 ^ 32 in
    let d2 : ℕ = rotation 8 d1 a2 in
    let c2 : ℕ = (c1 + d2) % 2 ^ 32 in
    let b2 : ℕ = rotation 7 b1 c2 in
    a2 ∷ b2 ∷ c2 ∷ d2 ∷ []

-- G on the words of v at the places a, b, c and d (3.1)
abbrev pub mixture_at : ℕ → ℕ → ℕ → ℕ → ℕ → ℕ → List ℕ → List ℕ
mixture_at a b c d x y v =
    let w : List ℕ = mixture (slice_index v a) (slice_index v b) (slice_index v c) (slice_index v d) x y in
    let first : List ℕ = slice_set (slice_set v a (slice_index w 0)) b (slice_index w 1) in
    slice_set (slice_set first c (slice_index w 2)) d (slice_index w 3)

-- a round with the words s of a block, in the order of a row of SIGMA: the columns, then the diagonals (3.2)
unfoldable pub round : List ℕ → List ℕ → List ℕ
round v s =
    let w : ℕ → ℕ = λ i. slice_index s i in
    let v1 = mixture_at 0 4 8 12 (w 0) (w 1) v in
    let v2 = mixture_at 1 5 9 13 (w 2) (w 3) v1 in
    let v3 = mixture_at 2 6 10 14 (w 4) (w 5) v2 in
    let v4 = mixture_at 3 7 11 15 (w 6) (w 7) v3 in
    let v5 = mixture_at 0 5 10 15 (w 8) (w 9) v4 in
    let v6 = mixture_at 1 6 11 12 (w 10) (w 11) v5 in
    let v7 = mixture_at 2 7 8 13 (w 12) (w 13) v6 in
    mixture_at 3 4 9 14 (w 14) (w 15) v7

-- the local vector: h, then IV with the counter t in two of its words, one inverted for the last block (3.2)
abbrev pub local_vector : List ℕ → ℕ → Bool → List ℕ
local_vector h t last =
    let iv : ℕ → ℕ = λ i. slice_index initial_words i in
    h ++ iv 0 ∷ iv 1 ∷ iv 2 ∷ iv 3
    ∷ bit_xor (iv 4) (t % 2 ^ 32) ∷ bit_xor (iv 5) (t / 2 ^ 32)
    ∷ (if last then bit_not w32 (iv 6) else iv 6) ∷ iv 7 ∷ []

-- the ten rounds on v with the words m of a block (3.2)
unfoldable pub rounds : List ℕ → List ℕ → List ℕ
rounds m v = fold (λ v row. round v (map (slice_index m) row)) v sigma

-- each word of h with the two halves of v in it (3.2)
abbrev pub next_state : List ℕ → List ℕ → List ℕ
next_state h v =
    let word : ℕ → ℕ = λ i. bit_xor (bit_xor (slice_index h i) (slice_index v i)) (slice_index v (i + 8)) in
    map word (range_with_len 0 8)

-- F (3.2)
unfoldable pub compression : List ℕ → List ℕ → ℕ → Bool → List ℕ
compression h m t last = next_state h (rounds m (local_vector h t last))

-- ---- a text

-- how many blocks a text of n bytes has, one at least (3.3)
abbrev pub block_count : ℕ → ℕ
block_count n = max 1 ((n + 63) / 64)

-- the bytes with zeros behind them, up to 64 (3.3)
abbrev pub full_block : List ℕ → List ℕ
full_block bytes = bytes ++ replicate (64 - length bytes) 0

-- the word at byte i (2.4)
abbrev pub word_from : List ℕ → ℕ → ℕ
word_from bytes i =
    let byte : ℕ → ℕ = λ k. slice_index bytes (i + k) in
    from_le_bytes w32 (slice_index bytes i ∷ byte 1 ∷ byte 2 ∷ byte 3 ∷ [])

-- sixteen words from byte i on
unfoldable pub words_from : List ℕ → ℕ → List ℕ
words_from bytes i = map (λ k. word_from bytes (i + 4 * k)) (range_with_len 0 16)

-- d, all blocks of a text as words (3.3)
unfoldable pub blocks : List ℕ → List (List ℕ)
blocks text =
    map (λ i. words_from (full_block (take 64 (drop (64 * i) text))) 0) (range_with_len 0 (block_count (length text)))

-- h after the first n blocks of d, none of them the last: the counter is the bytes up to each one's end (3.3)
unfoldable pub state_after : List ℕ → List (List ℕ) → ℕ → List ℕ
state_after h d zero = h
state_after h d (suc n) = compression (state_after h d n) (slice_index_or d n []) (64 * (n + 1)) false

-- h after all blocks of d, the last one with the length of the text (3.3)
abbrev pub last_state : List ℕ → List (List ℕ) → ℕ → List ℕ
last_state h d len =
    let last = length d - 1 in
    compression (state_after h d last) (slice_index_or d last []) len true

-- the words of the parameter block: 32 bytes out, no key, fanout and depth 1 (2.5), salt and personalization (section
-- 2.8 of the BLAKE2 specification)
abbrev pub parameter_words : List ℕ → List ℕ → List ℕ
parameter_words salt personalization =
    0x01010020 ∷ 0 ∷ 0 ∷ 0 ∷ word_from salt 0 ∷ word_from salt 4
    ∷ word_from personalization 0 ∷ word_from personalization 4 ∷ []

-- IV with these words in it (3.3)
unfoldable pub first_state : List ℕ → List ℕ → List ℕ
first_state salt personalization =
    let words : List ℕ = parameter_words salt personalization in
    map (λ i. bit_xor (slice_index initial_words i) (slice_index words i)) (range_with_len 0 8)

-- the 32 bytes of a state (2.4)
unfoldable pub state_bytes : List ℕ → List ℕ
state_bytes h = flat_map (to_le_bytes w32) h

-- BLAKE2s with salt and personalization (3.3)
unfoldable pub blake2s_with : List ℕ → List ℕ → List ℕ → List ℕ
blake2s_with salt personalization text =
    state_bytes (last_state (first_state salt personalization) (blocks text) (length text))

-- BLAKE2s: neither salt nor personalization (3.3)
abbrev pub blake2s : List ℕ → List ℕ
blake2s text = blake2s_with (replicate 8 0) (replicate 8 0) text
