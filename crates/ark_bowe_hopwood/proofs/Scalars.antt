-- The scalars of segments tell lists of chunks apart.
use Rattle.std.proofs.Common.{◌≡◌, ℕ, zero, suc, ◌+◌, ◌*◌, ◌%◌, ◌^◌, ◌<◌, ◌≤◌, true, false, List, [], ◌∷◌, length, ℤ, pos, negsuc, ◌+ℤ◌, ◌*ℤ◌, ◌≤ℤ◌, refl, sym, ap, ◌∙◌, arith}
use Rattle.std.proofs.Math.Nat.{mod-eq_of_lt, pow-suc}
use Rattle.std.proofs.lemmas.Int.{ints}
use Rattle.std.proofs.lemmas.Bool.{leb-true}
use Rattle.std.specs.Int.{int_rem_euclid}
use Rattle.ark_bowe_hopwood.specs.BoweHopwood.{Chunk, digit, segment_scalar, greatest_scalar, is_fitting, TellsChunksApart}

-- ---- digits

-- the chunk of a digit
abbrev chunk_of : ℤ → Chunk
chunk_of (pos zero) = (false, false, false)
chunk_of (pos (suc zero)) = (false, false, false)
chunk_of (pos (suc (suc zero))) = (true, false, false)
chunk_of (pos (suc (suc (suc zero)))) = (false, true, false)
chunk_of (pos (suc (suc (suc (suc n))))) = (true, true, false)
chunk_of (negsuc zero) = (false, false, true)
chunk_of (negsuc (suc zero)) = (true, false, true)
chunk_of (negsuc (suc (suc zero))) = (false, true, true)
chunk_of (negsuc (suc (suc (suc n)))) = (true, true, true)

chunk_of-digit : (c : Chunk) → chunk_of (digit c) ≡ c
chunk_of-digit (true, true, true) = refl
chunk_of-digit (true, true, false) = refl
chunk_of-digit (true, false, true) = refl
chunk_of-digit (true, false, false) = refl
chunk_of-digit (false, true, true) = refl
chunk_of-digit (false, true, false) = refl
chunk_of-digit (false, false, true) = refl
chunk_of-digit (false, false, false) = refl

-- the absolute value of z is m at most
pub record IsWithin (m : ℕ) (z : ℤ) : Type 0 where
  pub over : z ≤ℤ pos m
  pub under : pos 0 ≤ℤ (z +ℤ pos m)

digit-within : (c : Chunk) → IsWithin 4 (digit c)
digit-within (true, true, true) = record { over = omega (arith, ints); under = omega (arith, ints) }
digit-within (true, true, false) = record { over = omega (arith, ints); under = omega (arith, ints) }
digit-within (true, false, true) = record { over = omega (arith, ints); under = omega (arith, ints) }
digit-within (true, false, false) = record { over = omega (arith, ints); under = omega (arith, ints) }
digit-within (false, true, true) = record { over = omega (arith, ints); under = omega (arith, ints) }
digit-within (false, true, false) = record { over = omega (arith, ints); under = omega (arith, ints) }
digit-within (false, false, true) = record { over = omega (arith, ints); under = omega (arith, ints) }
digit-within (false, false, false) = record { over = omega (arith, ints); under = omega (arith, ints) }

-- ---- scalars

pub greatest_scalar-suc : (n : ℕ) → greatest_scalar (suc n) ≡ 16 * greatest_scalar n + 4
unfolding greatest_scalar
greatest_scalar-suc n = let whole = sixteenth n in omega (arith, pow-suc 16 n)
  where
    -- 16 ^ n is one more than a multiple of 15
    sixteenth : (n : ℕ) → 16 ^ n % 15 ≡ 1
    sixteenth zero = refl
    sixteenth (suc n) = let h = sixteenth n in omega (arith, pow-suc 16 n)

more_within : (m : ℕ) (d s : ℤ) → IsWithin 4 d → IsWithin m s → IsWithin (16 * m + 4) (d +ℤ pos 16 *ℤ s)
more_within m d s first others = record { over = omega (arith, ints); under = omega (arith, ints) }

wider : (m n : ℕ) (z : ℤ) → m ≤ n → IsWithin m z → IsWithin n z
wider m n z le within = record { over = omega (arith, ints); under = omega (arith, ints) }

pub scalar-within : (chunks : List Chunk) (n : ℕ) → length chunks ≤ n → IsWithin (greatest_scalar n)
    (segment_scalar chunks)
unfolding segment_scalar
scalar-within [] n few = record { over = omega (arith, ints); under = omega (arith, ints) }
scalar-within (c ∷ chunks) zero few = absurd (omega arith)
scalar-within (c ∷ chunks) (suc n) few =
    let whole = more_within (greatest_scalar n) (digit c) (segment_scalar chunks) (digit-within c)
    (scalar-within chunks n (omega arith)) in
    wider (16 * greatest_scalar n + 4) (greatest_scalar (suc n)) (digit c +ℤ pos 16 *ℤ segment_scalar chunks)
    (omega (arith, greatest_scalar-suc n)) whole

-- a digit and what stands behind it are told by their sum
split : (d e s t : ℤ) → IsWithin 4 d → IsWithin 4 e → d +ℤ pos 16 *ℤ s ≡ e +ℤ pos 16 *ℤ t → (d ≡ e) × (s ≡ t)
split d e s t first second same = (omega (arith, ints), omega (arith, ints))

pub alone : (a b : List Chunk) → length a ≡ length b → segment_scalar a ≡ segment_scalar b → a ≡ b
unfolding segment_scalar
alone [] [] long same = refl
alone [] (y ∷ b) long same = absurd (omega arith)
alone (x ∷ a) [] long same = absurd (omega arith)
alone (x ∷ a) (y ∷ b) long same =
    let parts = split (digit x) (digit y) (segment_scalar a) (segment_scalar b) (digit-within x)
    (digit-within y) same in
    let first : x ≡ y = sym (chunk_of-digit x) ∙ ap chunk_of parts.0 ∙ chunk_of-digit y in
    ap (λ (c : Chunk). c ∷ a) first ∙ ap (λ (t : List Chunk). y ∷ t) (alone a b (omega arith) parts.1)

-- the number that a whole number is, or one less than its negative
abbrev number_of : ℤ → ℕ
number_of (pos n) = n
number_of (negsuc n) = n

number_of-below : (m order : ℕ) (z : ℤ) → 2 * m < order → IsWithin m z → number_of z % order ≡ number_of z
number_of-below m order (pos n) half within = mod-eq_of_lt (omega (arith, ints))
number_of-below m order (negsuc n) half within = mod-eq_of_lt (omega (arith, ints))

-- whole numbers that lie within half of the order are told by their remainders
remainders : (m order : ℕ) (a b : ℤ) → 2 * m < order → IsWithin m a → IsWithin m b → number_of a % order ≡ number_of a
    → number_of b % order ≡ number_of b
    → int_rem_euclid a (pos order) ≡ int_rem_euclid b (pos order) → a ≡ b
remainders m order (pos a) (pos b) half first second left right same = omega (arith, ints)
remainders m order (pos a) (negsuc b) half first second left right same = omega (arith, ints)
remainders m order (negsuc a) (pos b) half first second left right same = omega (arith, ints)
remainders m order (negsuc a) (negsuc b) half first second left right same = omega (arith, ints)

pub fitting_tells : (order size : ℕ) → is_fitting order size ≡ true → 0 < order → TellsChunksApart order size
unfolding is_fitting
fitting_tells order size fitting some a b long few same =
    let most = greatest_scalar size in
    let half : 2 * most < order = omega (arith, leb-true _ _ fitting) in
    let first = scalar-within a size few in
    let second = scalar-within b size (omega arith) in
    alone a b long
    (remainders most order (segment_scalar a) (segment_scalar b) half first second (number_of-below most order _ half
    first) (number_of-below most order _ half second) same)
