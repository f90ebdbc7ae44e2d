-- The bytes of points.
use Rattle.std.proofs.Common.{◌≡◌, ℕ, zero, suc, ◌+◌, ◌*◌, ◌/◌, ◌%◌, ◌^◌, ◌<◌, ◌≤◌, Bool, true, false, List, length}
use Rattle.std.proofs.Common.{get_or, leb}
use Rattle.std.proofs.Common.{refl, sym, ◌∙◌, ap, arith, pow-suc, mul_comm}
use Rattle.std.proofs.Math.Nat.{div-div-eq-div-mul}
use Rattle.std.proofs.lemmas.Bool.{leb-true, leb-false}
use Rattle.std.specs.Int.{from_bool}
use Rattle.ark_base.specs.Digits.{number_of_bytes, bytes_of_number}
use Rattle.ark_base.specs.Laws.Digits.{length-bytes_of_number, number_of_bytes-bytes_of_number}
use Rattle.edwards.specs.Edwards.{Coordinates}
use Rattle.ed25519.specs.Edwards25519.{p, IsOnEd25519}
use Rattle.ed25519.specs.Spelling.{spelling}

pub length-spelling : (a : Coordinates) → length (spelling a) ≡ 32
length-spelling a = length-bytes_of_number 32 (a.y + 2 ^ 255 * (a.x % 2))

-- the byte at a place
pub byte_at : (len i n e : ℕ) → i < len → get_or (bytes_of_number len n) i e ≡ n / 256 ^ i % 256
unfolding bytes_of_number
byte_at zero i n e l = absurd (omega (arith, l))
byte_at (suc len) zero n e l = omega arith
byte_at (suc len) (suc i) n e l =
    byte_at len i (n / 256) e (omega (arith, l)) ∙ ap (λ t. t % 256) (down n (256 ^ i) (256 ^ suc i)
    (pow-suc 256 i))
  where
    down : (n k m : ℕ) → m ≡ k * 256 → n / 256 / k ≡ n / m
    down n k m e = div-div-eq-div-mul n 256 k ∙ ap (λ t. n / t) (sym (e ∙ mul_comm k 256))

fits : (y x : ℕ) → y < p → y + 2 ^ 255 * (x % 2) < 256 ^ 32
fits y x l = omega (arith, l)

-- the number that a point's bytes are
pub number_spelled : (a : Coordinates) → IsOnEd25519 a → number_of_bytes (spelling a) ≡ a.y + 2 ^ 255 * (a.x % 2)
number_spelled a on = number_of_bytes-bytes_of_number 32 (a.y + 2 ^ 255 * (a.x % 2)) (fits a.y a.x on.y_below)

-- the same number modulo p, where the bytes and their highest bit are given
pub number_marked : {bytes : List ℕ} {n : ℕ} (odd : Bool) (a : Coordinates) → IsOnEd25519 a → bytes ≡ spelling a
    → a.x % 2 ≡ from_bool odd → n ≡ number_of_bytes bytes % p → n ≡ (a.y + 2 ^ 255 * from_bool odd) % p
number_marked odd a on is mark is_n =
    is_n ∙ ap (λ s. number_of_bytes s % p) is ∙ ap (λ m. m % p) (number_spelled a on)
    ∙ ap (λ m. (a.y + 2 ^ 255 * m) % p) mark

-- their highest bit
pub mark_of : (a : Coordinates) (byte : ℕ) → IsOnEd25519 a → byte ≡ get_or (spelling a) 31 0
    → (byte < 128 → a.x % 2 ≡ 0) × (128 ≤ byte → a.x % 2 ≡ 1)
mark_of a byte on is =
    let whole = is ∙ byte_at 32 31 (a.y + 2 ^ 255 * (a.x % 2)) 0 (omega arith) in
    (λ l. small a.y a.x byte on.y_below whole l, λ l. great a.y a.x byte on.y_below whole l)
  where
    small : (y x byte : ℕ) → y < p → byte ≡ (y + 2 ^ 255 * (x % 2)) / 256 ^ 31 % 256 → byte < 128 → x % 2 ≡ 0
    small y x byte l e k = omega (arith, l, e, k)

    great : (y x byte : ℕ) → y < p → byte ≡ (y + 2 ^ 255 * (x % 2)) / 256 ^ 31 % 256 → 128 ≤ byte → x % 2 ≡ 1
    great y x byte l e k = omega (arith, l, e, k)

pub mark_is : (a : Coordinates) (byte : ℕ) → IsOnEd25519 a → byte ≡ get_or (spelling a) 31 0
    → a.x % 2 ≡ from_bool (leb 128 byte)
mark_is a byte on is = at (leb 128 byte) (leb-true 128 byte) (leb-false 128 byte)
  where
    at : (b : Bool) → (b ≡ true → 128 ≤ byte) → (b ≡ false → byte < 128) → a.x % 2 ≡ from_bool b
    at true great small = (mark_of a byte on is).1 (great refl)
    at false great small = (mark_of a byte on is).0 (small refl)
