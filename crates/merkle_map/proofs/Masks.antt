-- Bits in bytes.
use Rattle.std.proofs.Common.{zero, suc, ◌≡◌, ℕ, ◌+◌, ◌-◌, ◌*◌, ◌/◌, ◌%◌, ◌^◌, ◌<◌, ◌==◌, Bool, true, false, if◌then◌else◌, List, [], ◌∷◌, length, drop, get_or, arith, refl, ap, sym, ◌∙◌}
use Rattle.std.proofs.Math.Nat.{mul-add-div_right, mul-add-mod_self_right, two-pow-succ}
use Rattle.std.proofs.lemmas.Nat.{div-mul-add, pow-add, pow_pos}
use Rattle.std.proofs.lemmas.List.{get_or-drop}
use Rattle.merkle_map.specs.Map.{bit_of}
use Rattle.merkle_map.specs.ProofBytes.{number_of, packed}
use Rattle.merkle_map.proofs.Reading.{drop-twice}

-- a bit as a number
abbrev flag : Bool → ℕ
flag b = if b then 1 else 0

flag-one : (b : Bool) → (flag b == 1) ≡ b
flag-one true = refl
flag-one false = refl

flag-half : (b : Bool) → flag b % 2 ≡ flag b
flag-half true = refl
flag-half false = refl

flag-times : (b : Bool) (n : ℕ) → (if b then n else 0) ≡ flag b * n
flag-times true n = omega arith
flag-times false n = omega arith

pub number-small : (n : ℕ) (bits : List Bool) → number_of n bits < 2 ^ n
unfolding number_of
number-small zero bits = pow_pos 0
number-small (suc n) [] = pow_pos (suc n)
number-small (suc n) (true ∷ bits) = omega (arith, two-pow-succ n, number-small n bits)
number-small (suc n) (false ∷ bits) = omega (arith, two-pow-succ n, number-small n bits)

-- a bit of the number of some bits
bit-number : (n i k : ℕ) (bits : List Bool) → i + suc k ≡ n
    → (number_of n bits / 2 ^ k) % 2 ≡ flag (get_or bits i false)
unfolding number_of
bit-number zero i k bits e = absurd (omega (arith, e))
bit-number (suc n) i k [] e =
    let none : 0 ≡ 0 * 2 ^ k + 0 = omega arith in
    ap (λ (m : ℕ). (m / 2 ^ k) % 2) none ∙ ap (λ (m : ℕ). m % 2) (div-mul-add 0 (2 ^ k) 0 (pow_pos k))
bit-number (suc n) zero k (b ∷ bits) e =
    let same : n ≡ k = omega (arith, e) in
    let sum : (if b then 2 ^ n else 0) + number_of n bits ≡ flag b * 2 ^ k + number_of k bits =
    ap (λ (m : ℕ). (if b then 2 ^ m else 0) + number_of m bits) same
    ∙ ap (λ (m : ℕ). m + number_of k bits) (flag-times b (2 ^ k)) in
    ap (λ (m : ℕ). (m / 2 ^ k) % 2) sum
    ∙ ap (λ (m : ℕ). m % 2) (div-mul-add (flag b) (2 ^ k) (number_of k bits) (number-small k bits)) ∙ flag-half b
bit-number (suc n) (suc i) k (b ∷ bits) e =
    let below : i + suc k ≡ n = omega (arith, e) in
    let r = number_of n bits in
    let more : i + suc k ≡ (i + 1) + k = omega arith in
    let high : flag b * 2 ^ n ≡ ((flag b * 2 ^ i) * 2) * 2 ^ k =
    ap (λ (m : ℕ). flag b * 2 ^ m) (sym below ∙ more)
    ∙ ap (λ (m : ℕ). flag b * m) (pow-add 2 (i + 1) k ∙ ap (λ (m : ℕ). m * 2 ^ k) (pow-add 2 i 1))
    ∙ grind arith in
    ap (λ (m : ℕ). ((m + r) / 2 ^ k) % 2) (flag-times b (2 ^ n) ∙ high)
    ∙ ap (λ (m : ℕ). m % 2) (mul-add-div_right (pow_pos k) ((flag b * 2 ^ i) * 2) r)
    ∙ mul-add-mod_self_right (flag b * 2 ^ i) 2 (r / 2 ^ k)
    ∙ bit-number n i k bits below

pub length-packed : (count : ℕ) (bits : List Bool) → length (packed count bits) ≡ count
unfolding packed
length-packed zero bits = refl
length-packed (suc count) bits = ap suc (length-packed count (drop 8 bits))

get-packed : (count k : ℕ) (bits : List Bool) → k < count
    → get_or (packed count bits) k 0 ≡ number_of 8 (drop (8 * k) bits)
unfolding packed
get-packed zero k bits inside = absurd (omega (arith, inside))
get-packed (suc count) zero bits inside = refl
get-packed (suc count) (suc k) bits inside =
    let e : 8 + 8 * k ≡ 8 * suc k = omega arith in
    get-packed count k (drop 8 bits) (omega (arith, inside))
    ∙ ap (number_of 8) (drop-twice 8 (8 * k) bits ∙ ap (λ (n : ℕ). drop n bits) e)

-- a bit of packed bits
pub bit-packed : (count i : ℕ) (bits : List Bool) → i < 8 * count → bit_of i (packed count bits) ≡ get_or bits i false
bit-packed count i bits inside =
    let k = i / 8 in
    let j = i % 8 in
    let whole : 8 * (i / 8) + i % 8 ≡ i = omega arith in
    let sum : i % 8 + suc (7 - i % 8) ≡ 8 = omega arith in
    ap (λ (n : ℕ). (n / 2 ^ (7 - j)) % 2 == 1) (get-packed count k bits (omega (arith, inside)))
    ∙ ap (λ (n : ℕ). n == 1) (bit-number 8 j (7 - j) (drop (8 * k) bits) sum
    ∙ ap flag (get_or-drop (8 * k) bits j false ∙ ap (λ (n : ℕ). get_or bits n false) whole))
    ∙ flag-one (get_or bits i false)
