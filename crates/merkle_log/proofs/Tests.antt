-- What tests of an index and a size say, and the tests of their halves.
use Rattle.std.proofs.Common.{zero, suc, ◌≡◌, ℕ, ◌+◌, ◌-◌, ◌*◌, ◌/◌, ◌%◌, ◌<◌, ◌≤◌, ◌^◌, true, false, nat_lt, ◌==◌, if◌then◌else◌, arith, refl, ap, ◌∙◌, inl, inr}
use Rattle.std.proofs.lemmas.Bool.{cases_lt}
use Rattle.std.proofs.lemmas.Bool.Decides.{nat_tests}
use Rattle.std.proofs.Math.Nat.{mul-add, pow-suc, pow-le-pow_right}

pub odd_test : (i : ℕ) → i % 2 ≡ 1 → (i % 2 == 1) ≡ true
odd_test i odd = grind (arith, nat_tests)

pub even_test : (i : ℕ) → i % 2 ≡ 0 → (i % 2 == 1) ≡ false
even_test i even = grind (arith, nat_tests)

pub if_odd : {A : Type 0} (i : ℕ) (x y : A) → i % 2 ≡ 1 → (if i % 2 == 1 then x else y) ≡ x
if_odd i x y odd = rw (odd_test i odd) refl

pub if_even : {A : Type 0} (i : ℕ) (x y : A) → i % 2 ≡ 0 → (if i % 2 == 1 then x else y) ≡ y
if_even i x y even = rw (even_test i even) refl

-- half a power of two
pub twice : (j : ℕ) → 2 ^ suc j ≡ 2 ^ j + 2 ^ j
twice j = omega (arith, pow-suc 2 j)

pub power-rises : (a b : ℕ) → a ≤ b → 2 ^ a ≤ 2 ^ b
power-rises a b le = pow-le-pow_right (omega arith) le

pub mul-twice : (j n : ℕ) → n * 2 ^ suc j ≡ n * 2 ^ j + n * 2 ^ j
mul-twice j n = ap (λ m. n * m) (twice j) ∙ mul-add n (2 ^ j) (2 ^ j)

-- A test of halves is that of the whole: of an index, of a size, of an even number.
pub half_below : (j i : ℕ) → nat_lt (i / 2) (2 ^ j) ≡ nat_lt i (2 ^ suc j)
half_below j i = let two = twice j in grind (arith, nat_tests)

pub half_above : (j n : ℕ) → nat_lt (2 ^ j) ((n + 1) / 2) ≡ nat_lt (2 ^ suc j) n
half_above j n = let two = twice j in grind (arith, nat_tests)

pub half_beyond : (j m : ℕ) → m % 2 ≡ 0 → nat_lt (2 ^ j) (m / 2) ≡ nat_lt (2 ^ suc j) m
half_beyond j m even = let two = twice j in grind (arith, nat_tests)

pub half_same : (m n : ℕ) → m % 2 ≡ 0 → m ≤ n → (m / 2 == (n + 1) / 2) ≡ (m == n)
half_same m n even le = grind (arith, nat_tests)

pub half_behind : (j m : ℕ) → (m - 2 ^ suc j) / 2 ≡ m / 2 - 2 ^ j
half_behind j m = omega (arith, twice j)

-- Above a row with last index s, where some levels are left: one row up it is one fewer, and this holds at so many.
pub record Fewer (s : ℕ) (P : ℕ → Type 0) : Type 0 where
  pub levels : ℕ
  pub high : s / 2 < 2 ^ levels
  pub at : P levels

pub fewer : {s : ℕ} (P Q : ℕ → Type 0) (k : ℕ) → 0 < s → s < 2 ^ k → P k → ((j : ℕ) → s < 2 ^ suc j → P (suc j) → Q j)
    → Fewer s Q
fewer P Q zero some high at up = absurd (omega arith)
fewer P Q (suc k) some high at up = let two = twice k in record { levels = k; high = omega arith; at = up k high at }

-- What a level more leaves as it is, from one on, is the same at each level above.
pub stays : {B : Type 0} (f : ℕ → B) (k n : ℕ) → k ≤ n → ((m : ℕ) → k ≤ m → f (suc m) ≡ f m) → f n ≡ f k
stays f k zero le same = let e : 0 ≡ k = omega arith in ap f e
stays f k (suc n) le same = elim (cases_lt k (suc n)) [
  | inl less ↦ same n (omega arith) ∙ stays f k n (omega arith) same
  | inr ge ↦ let e : suc n ≡ k = omega arith in ap f e
]
