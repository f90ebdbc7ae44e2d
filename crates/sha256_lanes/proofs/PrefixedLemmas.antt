-- A message of a byte and two digests: its words, and its digest.
use Rattle.std.proofs.Common.{suc, ℕ, ◌≡◌, ◌<◌, ◌≤◌, ◌+◌, ◌-◌, ◌*◌, List, [], ◌∷◌, ◌++◌, length, take, drop, slice_index, arith, refl, ap, sym, ◌∙◌}
use Rattle.std.proofs.lemmas.List.{get_or_append_left, length-append, drop_all, drop-append-le}
use Rattle.std.proofs.Math.Seq.{drop-append-add, drop-cons}
use Rattle.sha2.specs.Sha256.{padded_message, padding, word_at}
use Rattle.sha256_lanes.specs.Lanes.{AreWords}
use Rattle.sha256_lanes.proofs.LongTextLemmas.{word_at-take}
use Rattle.sha256_lanes.proofs.PairLemmas.{at_right, word_at-left, word_at-right}

-- a word behind the first byte
word_behind : (p : ℕ) (xs : List ℕ) (i n : ℕ) → n ≡ suc i → word_at (p ∷ xs) n ≡ word_at xs i
word_behind p xs i n e =
    let at : (k m : ℕ) → m ≡ suc k → slice_index (p ∷ xs) m ≡ slice_index xs k =
    λ k m is. ap (slice_index (p ∷ xs)) is in
    rw (
      at i n e,
      at (i + 1) (n + 1) (omega arith),
      at (i + 2) (n + 2) (omega arith),
      at (i + 3) (n + 3) (omega arith),
    ) refl

-- words that lie within the left digest and within the right one, and the word between them
pub word_left : (p : ℕ) (l r : List ℕ) (k x : ℕ) → 1 ≤ k → k < 8 → length l ≡ 32 → x ≡ word_at l (4 * k - 1)
    → x ≡ word_at (p ∷ l ++ r) (4 * k)
word_left p l r k x low high size e =
    e ∙ sym (word_behind p (l ++ r) (4 * k - 1) (4 * k) (omega arith) ∙ word_at-left l r (4 * k - 1) (omega arith))

pub word_right : (p : ℕ) (l r : List ℕ) (k x : ℕ) → 1 ≤ k → k < 8 → length l ≡ 32 → x ≡ word_at r (4 * k - 1)
    → x ≡ word_at (p ∷ l ++ r) (4 * (8 + k))
word_right p l r k x low high size e =
    let i : ℕ = 4 * k - 1 in
    e ∙ sym (word_behind p (l ++ r) (32 + i) (4 * (8 + k)) (omega arith) ∙ word_at-right l r i (32 + i) size refl)

pub word_seam : (p : ℕ) (l r : List ℕ) (x : ℕ) → length l ≡ 32 → x ≡ word_at (slice_index l 31 ∷ r) 0
    → x ≡ word_at (p ∷ l ++ r) 32
word_seam p l r x size e =
    rw (
      get_or_append_left l r 0 31 (omega arith),
      at_right l r 0 32 size refl,
      at_right l r 1 33 size refl,
      at_right l r 2 34 size refl,
    ) e

-- the message with its padding
prefixed_padded : (p : ℕ) (l r : List ℕ) → length l ≡ 32 → length r ≡ 32 → padded_message (p ∷ l ++ r)
    ≡ (p ∷ l ++ r) ++ padding 65
prefixed_padded p l r sl sr =
    let size : length (p ∷ l ++ r) ≡ 65 = omega (arith, length-append l r) in
    ap (λ n. (p ∷ l ++ r) ++ padding n) size

pub prefixed_size : (p : ℕ) (l r : List ℕ) → length l ≡ 32 → length r ≡ 32 → length (padded_message (p ∷ l ++ r)) ≡ 128
prefixed_size p l r sl sr =
    ap length (prefixed_padded p l r sl sr) ∙ omega (arith, length-append (p ∷ l ++ r) (padding 65), length-append l r)

-- the words of its first block
pub AreWords-first : (p : ℕ) (l r w : List ℕ) → length l ≡ 32 → length r ≡ 32 → AreWords (p ∷ l ++ r) w
    → AreWords (take 64 (padded_message (p ∷ l ++ r))) w
AreWords-first p l r w sl sr so = λ k lt.
    let m : List ℕ = p ∷ l ++ r in
    so k lt ∙ sym (word_at-take (padded_message m) k (prefixed_size p l r sl sr) lt
    ∙ word_at-left m (padding (length m)) (4 * k) (omega (arith, length-append l r)))

-- the words of its second block
pub AreWords-second : (p : ℕ) (l r w : List ℕ) → length l ≡ 32 → length r ≡ 32
    → AreWords (slice_index r 31 ∷ padding 65) w → AreWords (drop 64 (padded_message (p ∷ l ++ r))) w
AreWords-second p l r w sl sr so =
    let m : List ℕ = p ∷ l ++ r in
    let cut : drop 64 (m ++ padding 65) ≡ drop 64 m ++ padding 65 =
    drop-append-le 64 m (padding 65) (omega (arith, length-append l r)) in
    let tail : drop (length l + 31) (l ++ r) ≡ drop 31 r = drop-append-add l r 31 in
    let right : drop 63 (l ++ r) ≡ drop 31 r = rw sl at tail in
    let last : drop 31 r ≡ slice_index r 31 ∷ [] =
    drop-cons r 31 0 (omega arith) ∙ ap (λ zs. slice_index r 31 ∷ zs) (drop_all 32 r (omega arith)) in
    let whole : drop 64 (padded_message m) ≡ slice_index r 31 ∷ padding 65 =
    ap (drop 64) (prefixed_padded p l r sl sr) ∙ cut ∙ ap (λ (b : List ℕ). b ++ padding 65) (right ∙ last) in
    λ k lt. so k lt ∙ sym (ap (λ (b : List ℕ). word_at b (4 * k)) whole)
