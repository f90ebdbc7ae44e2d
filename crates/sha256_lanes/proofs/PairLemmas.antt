-- A message of two digests: its words, and its digest.
use Rattle.std.proofs.Common.{◌≡◌, ℕ, ◌<◌, ◌≤◌, ◌+◌, ◌-◌, ◌*◌, ◌/◌, List, ◌++◌, length, take, drop, slice_index, arith, refl, ap, sym, ◌∙◌}
use Rattle.std.proofs.lemmas.List.{get_or_append_left, get_or-append_right, length-append}
use Rattle.std.proofs.Math.Seq.{take-append_seam, drop-append_seam}
use Rattle.sha2.specs.Sha256.{compress, digest_bytes, hash_after, initial_hash_256, padded_message, padding, sha256, word_at}
use Rattle.sha256_lanes.specs.Lanes.{pad}

pub word_at-left : (xs ys : List ℕ) (i : ℕ) → i + 4 ≤ length xs → word_at (xs ++ ys) i ≡ word_at xs i
word_at-left xs ys i le =
    rw (
      get_or_append_left xs ys 0 i (omega arith),
      get_or_append_left xs ys 0 (i + 1) (omega arith),
      get_or_append_left xs ys 0 (i + 2) (omega arith),
      get_or_append_left xs ys 0 (i + 3) (omega arith),
    ) refl

pub at_right : (xs ys : List ℕ) (i k : ℕ) → length xs ≡ 32 → k ≡ 32 + i → slice_index (xs ++ ys) k ≡ slice_index ys i
at_right xs ys i k size e =
    let rest : k - 32 ≡ i = omega arith in
    get_or-append_right xs ys 32 k 0 size (omega arith) ∙ ap (λ n. slice_index ys n) rest

pub word_at-right : (xs ys : List ℕ) (i k : ℕ) → length xs ≡ 32 → k ≡ 32 + i → word_at (xs ++ ys) k ≡ word_at ys i
word_at-right xs ys i k size e =
    rw (
      at_right xs ys i k size e,
      at_right xs ys (i + 1) (k + 1) size (omega arith),
      at_right xs ys (i + 2) (k + 2) size (omega arith),
      at_right xs ys (i + 3) (k + 3) size (omega arith),
    ) refl

-- words of the left digest and of the right one
pub pair_left : (l r : List ℕ) (k x : ℕ) → k < 8 → length l ≡ 32 → x ≡ word_at l (4 * k) → x ≡ word_at (l ++ r) (4 * k)
pair_left l r k x lt size e = e ∙ sym (word_at-left l r (4 * k) (omega arith))

pub pair_right : (l r : List ℕ) (k x : ℕ) → length l ≡ 32 → x ≡ word_at r (4 * k) → x ≡ word_at (l ++ r) (4 * (8 + k))
pair_right l r k x size e = e ∙ sym (word_at-right l r (4 * k) (4 * (8 + k)) size (omega arith))

-- the digest of a message of one block, from the states after each step: after it comes the block that pads it
pub sha256_whole : (m initial middle last : List ℕ) → length m ≡ 64 → initial ≡ initial_hash_256
    → middle ≡ compress initial m → last ≡ compress middle pad → digest_bytes last 8 ≡ sha256 m
unfolding sha256 hash_after
sha256_whole m initial middle last size ei em el =
    let whole : padded_message m ≡ m ++ pad = ap (λ n. m ++ padding n) size in
    let count : length (m ++ pad) / 64 ≡ 2 = omega (arith, length-append m pad) in
    let first : take 64 (m ++ pad) ≡ m = rw size at (take-append_seam m pad) in
    let second : drop 64 (m ++ pad) ≡ pad = rw size at (drop-append_seam m pad) in
    rw (whole, count, first, second, el, em, ei) refl
