-- A message of one block with its padding: its words, and its digest.
use Rattle.std.specs.Int.{w64, to_be_bytes}
use Rattle.std.proofs.Math.Seq.{set-append_seam, take-append_seam, take-append-add, drop-append_seam}
use Rattle.std.proofs.lemmas.Simd.{length-replicate}
use Rattle.std.proofs.Common.{replicate, suc, ◌^◌, ℕ, ◌≡◌, ◌≤◌, ◌+◌, ◌-◌, ◌*◌, ◌/◌, ◌%◌, List, [], ◌∷◌, ◌++◌, length, take, drop, slice_set, arith, refl, ap, sym, ◌∙◌}
use Rattle.std.proofs.lemmas.List.{length-append, take_all, drop_all, drop-drop, drop-replicate, take-replicate, append_assoc, append-nil}
use Rattle.sha2.specs.Sha256.{compress, digest_bytes, hash_after, initial_hash_256, padded_message, sha256}

-- the digest of a message that makes one block with its padding, from the states before and after it
pub sha256_short : (m initial last : List ℕ) → length (padded_message m) ≡ 64 → initial ≡ initial_hash_256
    → last ≡ compress initial (padded_message m) → digest_bytes last 8 ≡ sha256 m
unfolding sha256 hash_after
sha256_short m initial last size ei el =
    let count : length (padded_message m) / 64 ≡ 1 = omega arith in
    let first : take 64 (padded_message m) ≡ padded_message m = take_all 64 (padded_message m) (omega arith) in
    rw (count, first, el, ei) refl

-- a head and a tail, written to the front of zs
pub headed : (h m zs front mid : List ℕ) (e : ℕ) → e ≡ length h + length m → front ≡ h → mid ≡ m
    → (let held : List ℕ = front ++ drop (length h) zs in
    take (length h) held ++ (mid ++ drop (e - length h) (drop (length h) held)))
    ≡ (h ++ m) ++ drop (length (h ++ m)) zs
headed h m zs front mid e ee ef em =
    let count : length h + length m - length h ≡ length m = omega arith in
    let size : length (h ++ m) ≡ length h + length m = length-append h m in
    rw (
      ef,
      em,
      ee,
      count,
      size,
      take-append_seam h (drop (length h) zs),
      drop-append_seam h (drop (length h) zs),
      drop-drop (length m) (length h) zs,
    ) (sym (append_assoc h m (drop (length h + length m) zs)))

-- the bytes of a block: the message, a bit 1, zeros, and the length in bits
pub block_is : (m placed t : List ℕ) (n : ℕ) → n ≡ length m → n ≤ 55 → placed ≡ m ++ drop (length m) (replicate 64 0)
    → t ≡ to_be_bytes w64 (8 * n)
    → take 56 (slice_set placed n 0x80) ++ (t ++ drop 8 (drop 56 (slice_set placed n 0x80))) ≡ padded_message m
block_is m placed t n en short ef et =
    let rest : List ℕ = 0x80 ∷ replicate (63 - n) 0 in
    let fill : ℕ → List ℕ = λ k. replicate k 0 in
    let left : 64 - n ≡ suc (63 - n) = omega arith in
    let zeros : drop n (fill 64) ≡ 0 ∷ fill (63 - n) = drop-replicate n 64 0 ∙ ap fill left in
    let seam : slice_set (m ++ 0 ∷ replicate (63 - n) 0) (length m) 0x80 ≡ m ++ rest =
    set-append_seam m 0 (replicate (63 - n) 0) 0x80 in
    let whole : slice_set placed n 0x80 ≡ m ++ rest = rw (ef, ← en, zeros) (rw (← en) at seam) in
    let size : length (m ++ rest) ≡ 64 = omega (arith, length-append m rest, length-replicate {A = ℕ} (63 - n) 0) in
    let cut : 56 ≡ length m + suc (55 - n) = omega arith in
    let front_is : take 56 (m ++ rest) ≡ m ++ 0x80 ∷ replicate (55 - n) 0 =
    ap (λ (k : ℕ). take k (m ++ rest)) cut ∙ take-append-add m rest (suc (55 - n)) ∙ ap (λ (zs : List ℕ). m ++ 0x80
    ∷ zs) (take-replicate (55 - n) (63 - n) 0 (omega arith)) in
    let back : drop 8 (drop 56 (m ++ rest)) ≡ [] = drop-drop 8 56 (m ++ rest) ∙ drop_all 64 (m ++ rest) (omega arith) in
    let count : (119 - n % 64) % 64 ≡ 55 - n = omega arith in
    let bits : n * 8 % 2 ^ 64 ≡ 8 * n = omega arith in
    rw (whole, front_is, back, ← en, count, bits, ← et, append-nil)
    (append_assoc m (0x80 ∷ replicate (55 - n) 0) t)
