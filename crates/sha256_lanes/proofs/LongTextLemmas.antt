-- A message of two blocks with its padding, and its digest.
use Rattle.std.specs.Int.{w64, to_be_bytes}
use Rattle.std.proofs.Math.Seq.{set-append_seam, take-append-add}
use Rattle.std.proofs.lemmas.Simd.{length-replicate}
use Rattle.std.proofs.Common.{replicate, suc, ℕ, ◌≡◌, ◌<◌, ◌≤◌, ◌+◌, ◌-◌, ◌*◌, ◌/◌, ◌%◌, ◌^◌, List, [], ◌∷◌, ◌++◌, length, take, drop, slice_index, slice_set, arith, refl, ap, sym, ◌∙◌}
use Rattle.std.proofs.lemmas.List.{get_or-drop, length-append, length-take, take-append-drop, length-drop, take_all, drop_all, drop-drop, drop-replicate, take-replicate, append_assoc, append-nil}
use Rattle.sha2.specs.Sha256.{compress, digest_bytes, hash_after, initial_hash_256, padded_message, sha256, word_at}
use Rattle.sha256_lanes.specs.Lanes.{AreWords}
use Rattle.sha256_lanes.proofs.PairLemmas.{word_at-left}

-- the digest of a message that makes two blocks with its padding, from the states before, between and after them
pub sha256_long : (m initial middle last : List ℕ) → length (padded_message m) ≡ 128 → initial ≡ initial_hash_256
    → middle ≡ compress initial (take 64 (padded_message m)) → last ≡ compress middle (drop 64 (padded_message m))
    → digest_bytes last 8 ≡ sha256 m
unfolding sha256 hash_after
sha256_long m initial middle last size ei em el =
    let p : List ℕ = padded_message m in
    let count : length p / 64 ≡ 2 = omega arith in
    let rest : take 64 (drop 64 p) ≡ drop 64 p = take_all 64 (drop 64 p) (omega (arith, length-drop 64 p)) in
    rw (count, rest, el, em, ei) refl

-- the bytes of the blocks: the message, a bit 1, zeros, and the length in bits
pub blocks_are : (m placed t : List ℕ) (n : ℕ) → n ≡ length m → 56 ≤ n → n ≤ 119
    → placed ≡ m ++ drop (length m) (replicate 128 0) → t ≡ to_be_bytes w64 (8 * n)
    → take 120 (slice_set placed n 0x80) ++ (t ++ drop 8 (drop 120 (slice_set placed n 0x80))) ≡ padded_message m
blocks_are m placed t n en low high ef et =
    let rest : List ℕ = 0x80 ∷ replicate (127 - n) 0 in
    let fill : ℕ → List ℕ = λ k. replicate k 0 in
    let left : 128 - n ≡ suc (127 - n) = omega arith in
    let zeros : drop n (fill 128) ≡ 0 ∷ fill (127 - n) = drop-replicate n 128 0 ∙ ap fill left in
    let seam : slice_set (m ++ 0 ∷ replicate (127 - n) 0) (length m) 0x80 ≡ m ++ rest =
    set-append_seam m 0 (replicate (127 - n) 0) 0x80 in
    let whole : slice_set placed n 0x80 ≡ m ++ rest = rw (ef, ← en, zeros) (rw (← en) at seam) in
    let size : length (m ++ rest) ≡ 128 = omega (arith, length-append m rest, length-replicate {A = ℕ} (127 - n) 0) in
    let cut : 120 ≡ length m + suc (119 - n) = omega arith in
    let front_is : take 120 (m ++ rest) ≡ m ++ 0x80 ∷ replicate (119 - n) 0 =
    ap (λ (k : ℕ). take k (m ++ rest)) cut ∙ take-append-add m rest (suc (119 - n)) ∙ ap (λ (zs : List ℕ). m ++ 0x80
    ∷ zs) (take-replicate (119 - n) (127 - n) 0 (omega arith)) in
    let back : drop 8 (drop 120 (m ++ rest)) ≡ [] =
    drop-drop 8 120 (m ++ rest) ∙ drop_all 128 (m ++ rest) (omega arith) in
    let count : (119 - n % 64) % 64 ≡ 119 - n = omega arith in
    let bits : n * 8 % 2 ^ 64 ≡ 8 * n = omega arith in
    rw (whole, front_is, back, ← en, count, bits, ← et, append-nil)
    (append_assoc m (0x80 ∷ replicate (119 - n) 0) t)

-- a word behind the first bytes
pub word_at-drop : (xs : List ℕ) (n i : ℕ) → word_at (drop n xs) i ≡ word_at xs (n + i)
word_at-drop xs n i =
    let at : (k m : ℕ) → m ≡ n + k → slice_index (drop n xs) k ≡ slice_index xs m =
    λ k m is. get_or-drop n xs k 0 ∙ ap (slice_index xs) (sym is) in
    rw (
      at i (n + i) refl,
      at (i + 1) (n + i + 1) (omega arith),
      at (i + 2) (n + i + 2) (omega arith),
      at (i + 3) (n + i + 3) (omega arith),
    ) refl

-- a word of the first of two blocks
pub word_at-take : (xs : List ℕ) (k : ℕ) → length xs ≡ 128 → k < 16 → word_at (take 64 xs) (4 * k) ≡ word_at xs (4 * k)
word_at-take xs k size lt =
    sym (word_at-left (take 64 xs) (drop 64 xs) (4 * k) (omega (arith, length-take 64 xs)))
    ∙ ap (λ (ys : List ℕ). word_at ys (4 * k)) (take-append-drop 64 xs)

-- the words of the first of two blocks
pub AreWords-front : (xs w : List ℕ) → length xs ≡ 128 → AreWords (drop 0 xs) w → AreWords (take 64 xs) w
AreWords-front xs w size so = λ k lt.
    let here : 0 + 4 * k ≡ 4 * k = omega arith in
    so k lt ∙ word_at-drop xs 0 (4 * k) ∙ ap (word_at xs) here ∙ sym (word_at-take xs k size lt)
