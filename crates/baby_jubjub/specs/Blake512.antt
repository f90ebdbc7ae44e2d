-- BLAKE-512, the finalist of SHA-3 (submission of 2010, section 2.3), without salt, of texts of whole words that fit
-- one block: at most twelve words of eight bytes, the greatest byte first.
use Rattle.std.specs.Prelude.{ℕ, ◌+◌, ◌-◌, ◌*◌, ◌/◌, ◌%◌, ◌^◌, bit_xor, List, [], ◌∷◌, ◌++◌, length, map, replicate}
use Rattle.std.specs.Prelude.{slice_index, slice_set}
use Rattle.std.specs.List.{flat_map, fold, range_with_len}
use Rattle.std.specs.Int.{w64, rotate_right, from_be_bytes, to_be_bytes}

-- the initial value: that of SHA-512
abbrev pub blake_start : List ℕ
blake_start =
    0x6A09E667F3BCC908 ∷ 0xBB67AE8584CAA73B ∷ 0x3C6EF372FE94F82B ∷ 0xA54FF53A5F1D36F1
    ∷ 0x510E527FADE682D1 ∷ 0x9B05688C2B3E6C1F ∷ 0x1F83D9ABFB41BD6B ∷ 0x5BE0CD19137E2179 ∷ []

-- the constants: the first digits of pi
abbrev pub blake_constants : List ℕ
blake_constants =
    0x243F6A8885A308D3 ∷ 0x13198A2E03707344 ∷ 0xA4093822299F31D0 ∷ 0x082EFA98EC4E6C89
    ∷ 0x452821E638D01377 ∷ 0xBE5466CF34E90C6C ∷ 0xC0AC29B7C97C50DD ∷ 0x3F84D5B5B5470917
    ∷ 0x9216D5D98979FB1B ∷ 0xD1310BA698DFB5AC ∷ 0x2FFD72DBD01ADFB7 ∷ 0xB8E1AFED6A267E96
    ∷ 0xBA7C9045F12C7F99 ∷ 0x24A19947B3916CF7 ∷ 0x0801F2E2858EFC16 ∷ 0x636920D871574E69 ∷ []

-- the permutations of the sixteen rounds: ten, and the first six of them again
abbrev pub blake_orders : List (List ℕ)
blake_orders =
    (0 ∷ 1 ∷ 2 ∷ 3 ∷ 4 ∷ 5 ∷ 6 ∷ 7 ∷ 8 ∷ 9 ∷ 10 ∷ 11 ∷ 12 ∷ 13 ∷ 14 ∷ 15 ∷ [])
    ∷ (14 ∷ 10 ∷ 4 ∷ 8 ∷ 9 ∷ 15 ∷ 13 ∷ 6 ∷ 1 ∷ 12 ∷ 0 ∷ 2 ∷ 11 ∷ 7 ∷ 5 ∷ 3 ∷ [])
    ∷ (11 ∷ 8 ∷ 12 ∷ 0 ∷ 5 ∷ 2 ∷ 15 ∷ 13 ∷ 10 ∷ 14 ∷ 3 ∷ 6 ∷ 7 ∷ 1 ∷ 9 ∷ 4 ∷ [])
    ∷ (7 ∷ 9 ∷ 3 ∷ 1 ∷ 13 ∷ 12 ∷ 11 ∷ 14 ∷ 2 ∷ 6 ∷ 5 ∷ 10 ∷ 4 ∷ 0 ∷ 15 ∷ 8 ∷ [])
    ∷ (9 ∷ 0 ∷ 5 ∷ 7 ∷ 2 ∷ 4 ∷ 10 ∷ 15 ∷ 14 ∷ 1 ∷ 11 ∷ 12 ∷ 6 ∷ 8 ∷ 3 ∷ 13 ∷ [])
    ∷ (2 ∷ 12 ∷ 6 ∷ 10 ∷ 0 ∷ 11 ∷ 8 ∷ 3 ∷ 4 ∷ 13 ∷ 7 ∷ 5 ∷ 15 ∷ 14 ∷ 1 ∷ 9 ∷ [])
    ∷ (12 ∷ 5 ∷ 1 ∷ 15 ∷ 14 ∷ 13 ∷ 4 ∷ 10 ∷ 0 ∷ 7 ∷ 6 ∷ 3 ∷ 9 ∷ 2 ∷ 8 ∷ 11 ∷ [])
    ∷ (13 ∷ 11 ∷ 7 ∷ 14 ∷ 12 ∷ 1 ∷ 3 ∷ 9 ∷ 5 ∷ 0 ∷ 15 ∷ 4 ∷ 8 ∷ 6 ∷ 2 ∷ 10 ∷ [])
    ∷ (6 ∷ 15 ∷ 14 ∷ 9 ∷ 11 ∷ 3 ∷ 0 ∷ 8 ∷ 12 ∷ 2 ∷ 13 ∷ 7 ∷ 1 ∷ 4 ∷ 10 ∷ 5 ∷ [])
    ∷ (10 ∷ 2 ∷ 8 ∷ 4 ∷ 7 ∷ 6 ∷ 1 ∷ 5 ∷ 15 ∷ 11 ∷ 9 ∷ 14 ∷ 3 ∷ 12 ∷ 13 ∷ 0 ∷ [])
    ∷ (0 ∷ 1 ∷ 2 ∷ 3 ∷ 4 ∷ 5 ∷ 6 ∷ 7 ∷ 8 ∷ 9 ∷ 10 ∷ 11 ∷ 12 ∷ 13 ∷ 14 ∷ 15 ∷ [])
    ∷ (14 ∷ 10 ∷ 4 ∷ 8 ∷ 9 ∷ 15 ∷ 13 ∷ 6 ∷ 1 ∷ 12 ∷ 0 ∷ 2 ∷ 11 ∷ 7 ∷ 5 ∷ 3 ∷ [])
    ∷ (11 ∷ 8 ∷ 12 ∷ 0 ∷ 5 ∷ 2 ∷ 15 ∷ 13 ∷ 10 ∷ 14 ∷ 3 ∷ 6 ∷ 7 ∷ 1 ∷ 9 ∷ 4 ∷ [])
    ∷ (7 ∷ 9 ∷ 3 ∷ 1 ∷ 13 ∷ 12 ∷ 11 ∷ 14 ∷ 2 ∷ 6 ∷ 5 ∷ 10 ∷ 4 ∷ 0 ∷ 15 ∷ 8 ∷ [])
    ∷ (9 ∷ 0 ∷ 5 ∷ 7 ∷ 2 ∷ 4 ∷ 10 ∷ 15 ∷ 14 ∷ 1 ∷ 11 ∷ 12 ∷ 6 ∷ 8 ∷ 3 ∷ 13 ∷ [])
    ∷ (2 ∷ 12 ∷ 6 ∷ 10 ∷ 0 ∷ 11 ∷ 8 ∷ 3 ∷ 4 ∷ 13 ∷ 7 ∷ 5 ∷ 15 ∷ 14 ∷ 1 ∷ 9 ∷ [])
    ∷ []

-- the exclusive or of two words, turned right by k bits
abbrev pub word_turned : ℕ → ℕ → ℕ → ℕ
word_turned k x y = rotate_right w64 (bit_xor x y) k

-- G on four words, with two words x and y
unfoldable pub blake_mixture : ℕ → ℕ → ℕ → ℕ → ℕ → ℕ → List ℕ
blake_mixture a b c d x y =
    let a1 : ℕ = (a + b + x) % 2 ^ 64 in
    let d1 : ℕ = word_turned 32 d a1 in
    let c1 : ℕ = (c + d1) % 2 ^ 64 in
    let b1 : ℕ = word_turned 25 b c1 in
    let a2 : ℕ = (a1 + b1 + y) % 2 ^ 64 in
    let d2 : ℕ = word_turned 16 d1 a2 in
    let c2 : ℕ = (c1 + d2) % 2 ^ 64 in
    let b2 : ℕ = word_turned 11 b1 c2 in
    a2 ∷ b2 ∷ c2 ∷ d2 ∷ []

-- G on the words of v at the places a, b, c and d
abbrev pub blake_mixture_at : ℕ → ℕ → ℕ → ℕ → ℕ → ℕ → List ℕ → List ℕ
blake_mixture_at a b c d x y v =
    let w : List ℕ = blake_mixture (slice_index v a) (slice_index v b) (slice_index v c) (slice_index v d) x y in
    let first : List ℕ = slice_set (slice_set v a (slice_index w 0)) b (slice_index w 1) in
    slice_set (slice_set first c (slice_index w 2)) d (slice_index w 3)

-- a round, with its sixteen words: the columns, then the diagonals
unfoldable pub blake_round : List ℕ → List ℕ → List ℕ
blake_round v s =
    let w : ℕ → ℕ = λ i. slice_index s i in
    let v1 = blake_mixture_at 0 4 8 12 (w 0) (w 1) v in
    let v2 = blake_mixture_at 1 5 9 13 (w 2) (w 3) v1 in
    let v3 = blake_mixture_at 2 6 10 14 (w 4) (w 5) v2 in
    let v4 = blake_mixture_at 3 7 11 15 (w 6) (w 7) v3 in
    let v5 = blake_mixture_at 0 5 10 15 (w 8) (w 9) v4 in
    let v6 = blake_mixture_at 1 6 11 12 (w 10) (w 11) v5 in
    let v7 = blake_mixture_at 2 7 8 13 (w 12) (w 13) v6 in
    blake_mixture_at 3 4 9 14 (w 14) (w 15) v7

-- the word of the block at place j, with the constant at place k
abbrev pub word_with : List ℕ → ℕ → ℕ → ℕ
word_with m j k = bit_xor (slice_index m j) (slice_index blake_constants k)

-- the words of a round: two by two, the word at each place with the constant at the other
unfoldable pub round_words : List ℕ → List ℕ → List ℕ
round_words m order =
    let at : ℕ → ℕ = λ i. slice_index order i in
    flat_map (λ i. word_with m (at (2 * i)) (at (2 * i + 1)) ∷ word_with m (at (2 * i + 1)) (at (2 * i)) ∷ [])
    (range_with_len 0 8)

-- the sixteen rounds on v with the words m of a block
unfoldable pub blake_rounds : List ℕ → List ℕ → List ℕ
blake_rounds m v = fold (λ v order. blake_round v (round_words m order)) v blake_orders

-- the vector before the rounds: h, and eight constants, four of them with the count of bits t, below 2^64
abbrev pub blake_vector : List ℕ → ℕ → List ℕ
blake_vector h t =
    let c : ℕ → ℕ = λ i. slice_index blake_constants i in
    h ++ c 0 ∷ c 1 ∷ c 2 ∷ c 3 ∷ bit_xor (c 4) t ∷ bit_xor (c 5) t ∷ c 6 ∷ c 7 ∷ []

-- each word of h with the two halves of v in it
abbrev pub blake_finish : List ℕ → List ℕ → List ℕ
blake_finish h v =
    let word : ℕ → ℕ = λ i. bit_xor (bit_xor (slice_index h i) (slice_index v i)) (slice_index v (i + 8)) in
    map word (range_with_len 0 8)

-- the state behind a block, at whose end the text has t bits
unfoldable pub blake_compression : List ℕ → List ℕ → ℕ → List ℕ
blake_compression h m t = blake_finish h (blake_rounds m (blake_vector h t))

-- the block of a text: its words, a bit 1, bits 0 up to place 13, which ends with a bit 1, and the count of bits
unfoldable pub blake_block : List ℕ → List ℕ
blake_block words = words ++ 2 ^ 63 ∷ (replicate (12 - length words) 0 ++ 1 ∷ 0 ∷ 64 * length words ∷ [])

-- the digest of a text by its words, as words
unfoldable pub blake_words : List ℕ → List ℕ
blake_words words = blake_compression blake_start (blake_block words) (64 * length words)

-- the word at byte i
abbrev pub big_word : List ℕ → ℕ → ℕ
big_word bytes i =
    let byte : ℕ → ℕ = λ k. slice_index bytes (i + k) in
    from_be_bytes w64 (slice_index bytes i ∷ byte 1 ∷ byte 2 ∷ byte 3 ∷ byte 4 ∷ byte 5 ∷ byte 6 ∷ byte 7 ∷ [])

-- the words of bytes
unfoldable pub big_words : List ℕ → List ℕ
big_words bytes = map (λ k. big_word bytes (8 * k)) (range_with_len 0 (length bytes / 8))

-- the 64 bytes of the digest of bytes
unfoldable pub blake512 : List ℕ → List ℕ
blake512 bytes = flat_map (to_be_bytes w64) (blake_words (big_words bytes))
