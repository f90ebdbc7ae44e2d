-- The digits of bytes, the highest of each byte first.
use Rattle.std.proofs.Common.{◌≡◌, ℕ, zero, suc, ◌+◌, ◌-◌, ◌*◌, ◌/◌, ◌%◌, ◌^◌, ◌<◌, ◌≤◌, Bool, eqb, List, [], ◌∷◌, ◌++◌, length, get_or, take, drop, reverse, refl, sym, ap, ◌∙◌, append_assoc, arith, lit<, if◌then◌else◌}
use Rattle.std.proofs.Math.Seq.{drop-cons}
use Rattle.std.proofs.Math.Nat.{mod-add-mod, add-mod-mod, zero-mod, div-div-eq-div-mul, pow-succ'}
use Rattle.std.proofs.lemmas.List.{append-nil, reverse-append, drop_all, take_more, flat_map_more}
use Rattle.std.proofs.lemmas.Nat.{mod_below, mul-mod}
use Rattle.std.specs.Int.{w8, reverse_bits, reverse_bits_onto}
use Rattle.ark_groups.specs.Bits.{bits_of_number, number_of_bits}
use Rattle.ark_signatures.specs.Schnorr.{highest_first, multiplier}

bit : (m : ℕ) → m < 2 → (if eqb m 1 then 1 else 0) ≡ m
bit zero below = refl
bit (suc zero) below = refl
bit (suc (suc m)) below = absurd (omega (arith, below))

-- a digit in front of others
one_more : (n : ℕ) (bits : List Bool) → number_of_bits (eqb (n % 2) 1 ∷ bits) ≡ number_of_bits bits * 2 + n % 2
unfolding number_of_bits
one_more n bits =
    ap (λ b. b + 2 * number_of_bits bits) (bit (n % 2) (mod_below n 2 (lit< tt))) ∙ omega arith

reversed : (count n : ℕ) (bits : List Bool) → number_of_bits (reverse (bits_of_number count n) ++ bits)
    ≡ reverse_bits_onto count n (number_of_bits bits)
unfolding bits_of_number reverse_bits_onto
reversed zero n bits = refl
reversed (suc count) n bits =
    let b = eqb (n % 2) 1 in
    let others = bits_of_number count (n / 2) in
    ap (λ (t : List Bool). number_of_bits (t ++ bits)) (reverse-append (b ∷ []) others)
    ∙ ap number_of_bits (append_assoc (reverse others) (b ∷ []) bits)
    ∙ reversed count (n / 2) (b ∷ bits)
    ∙ ap (reverse_bits_onto count (n / 2)) (one_more n bits)

behind : (n a : ℕ) → reverse_bits_onto 8 n a ≡ a * 256 + reverse_bits_onto 8 n 0
unfolding reverse_bits_onto
behind n a = omega arith

-- a byte in front counts itself turned over, and what is behind it 256 times
pub multiplier-byte : (byte : ℕ) (bytes : List ℕ) → multiplier (byte ∷ bytes) ≡ multiplier bytes * 256
    + reverse_bits w8 byte
multiplier-byte byte bytes = reversed 8 byte (highest_first bytes) ∙ behind byte (multiplier bytes)

-- modulo p, by a product and a sum
pub multiplier-mod : (p byte a b c t : ℕ) (bytes : List ℕ) → a ≡ multiplier bytes % p → t ≡ 256 % p → b ≡ (a * t) % p
    → c ≡ (b + reverse_bits w8 byte % p) % p → c ≡ multiplier (byte ∷ bytes) % p
multiplier-mod p byte a b c t bytes is_a is_t is_b is_c =
    let m = multiplier bytes in
    let product : b ≡ (m * 256) % p =
    is_b ∙ ap (λ k. (k * t) % p) is_a ∙ ap (λ k. (m % p * k) % p) is_t ∙ sym (mul-mod m 256 p) in
    is_c ∙ ap (λ k. (k + reverse_bits w8 byte % p) % p) product ∙ mod-add-mod (m * 256) p (reverse_bits w8 byte % p)
    ∙ add-mod-mod (m * 256) (reverse_bits w8 byte) p ∙ ap (λ k. k % p) (sym (multiplier-byte byte bytes))

pub multiplier-none : (bytes : List ℕ) (p : ℕ) → 0 ≡ multiplier (drop (length bytes) bytes) % p
unfolding number_of_bits
multiplier-none bytes p =
    sym (ap (λ (t : List ℕ). multiplier t % p) (drop_all (length bytes) bytes (omega arith)) ∙ zero-mod p)

-- the bytes from the one before on
pub drop-before : (bytes : List ℕ) (i : ℕ) → 0 < i → i ≤ length bytes → drop (i - 1) bytes ≡ get_or bytes (i - 1) 0
    ∷ drop i bytes
drop-before bytes i some within =
    let next : suc (i - 1) ≡ i = omega arith in
    drop-cons bytes (i - 1) 0 (omega (arith, some, within)) ∙ ap (λ (n : ℕ). get_or bytes (i - 1) 0 ∷ drop n bytes) next

-- the highest of some digits is the one that is cut off last
highest : (count n : ℕ) → bits_of_number (suc count) n ≡ bits_of_number count n ++ eqb (n / 2 ^ count % 2) 1 ∷ []
unfolding bits_of_number
highest zero n =
    let whole : n ≡ n / 2 ^ 0 = omega arith in
    ap (λ (m : ℕ). eqb (m % 2) 1 ∷ []) whole
highest (suc count) n =
    let deeper : n / 2 / 2 ^ count ≡ n / 2 ^ suc count =
    div-div-eq-div-mul n 2 (2 ^ count) ∙ ap (λ (m : ℕ). n / m) (sym (pow-succ' 2 count)) in
    ap (λ (t : List Bool). eqb (n % 2) 1 ∷ t) (highest count (n / 2))
    ∙ ap (λ (m : ℕ). (eqb (n % 2) 1 ∷ bits_of_number count (n / 2)) ++ eqb (m % 2) 1 ∷ []) deeper

-- what was put, and what is still to be put, are the whole: after one digit more, and where none is left
pub highest-step : (front new whole : List Bool) (i n : ℕ) → i < 8 → new ≡ front ++ eqb (n / 2 ^ (7 - i) % 2) 1 ∷ []
    → front ++ reverse (bits_of_number (8 - i) n) ≡ whole → new ++ reverse (bits_of_number (8 - (i + 1)) n) ≡ whole
highest-step front new whole i n more put so_far =
    let left = 7 - i in
    let same : 8 - (i + 1) ≡ left = omega arith in
    let one : 8 - i ≡ suc left = omega (arith, more) in
    let digit = eqb (n / 2 ^ left % 2) 1 in
    let others = bits_of_number left n in
    ap (λ (t : List Bool). t ++ reverse (bits_of_number (8 - (i + 1)) n)) put
    ∙ append_assoc front (digit ∷ []) (reverse (bits_of_number (8 - (i + 1)) n))
    ∙ ap (λ (k : ℕ). front ++ digit ∷ reverse (bits_of_number k n)) same
    ∙ ap (λ (t : List Bool). front ++ t) (sym (reverse-append others (digit ∷ [])))
    ∙ ap (λ (t : List Bool). front ++ reverse t) (sym (highest left n))
    ∙ ap (λ (k : ℕ). front ++ reverse (bits_of_number k n)) (sym one)
    ∙ so_far

pub highest-all : (front whole : List Bool) (i n : ℕ) → 8 ≤ i → front ++ reverse (bits_of_number (8 - i) n) ≡ whole
    → front ≡ whole
unfolding bits_of_number
highest-all front whole i n done so_far =
    let none : 8 - i ≡ 0 = omega (arith, done) in
    sym (ap (λ (k : ℕ). front ++ reverse (bits_of_number k n)) none ∙ append-nil front) ∙ so_far

pub highest_first-more : (bytes : List ℕ) (i : ℕ) → i < length bytes
    → highest_first (take i bytes) ++ reverse (bits_of_number 8 (get_or bytes i 0)) ≡ highest_first (take (i + 1) bytes)
highest_first-more bytes i within =
    flat_map_more (λ byte. reverse (bits_of_number 8 byte)) [] (take i bytes) (get_or bytes i 0)
    ∙ sym (ap highest_first (take_more bytes i 0 within))
