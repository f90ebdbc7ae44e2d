-- The base point's multiples by digits.
use Rattle.std.proofs.Common.{◌≡◌, ℕ, zero, suc, ◌+◌, ◌*◌, ◌/◌, ◌%◌, ◌^◌, ◌<◌, Bool, true, false, eqb, refl, sym, ◌∙◌}
use Rattle.std.proofs.Common.{ap, subst, arith, pow-suc}
use Rattle.std.proofs.Math.Nat.{div-div-eq-div-mul, mul_comm, mod-eq_of_lt}
use Rattle.std.proofs.Math.Arith.{mod-mul}
use Rattle.std.proofs.lemmas.Bool.{eqb-true, eqb-false}
use Rattle.ark_groups.specs.Group.{times}
use Rattle.ark_wide_fields.specs.Choices.{ones, mask_for}
use Rattle.edwards.specs.Edwards.{Coordinates, sum, neutral}
use Rattle.edwards.specs.Extended.{Stands}
use Rattle.edwards.proofs.Sums.{multiples_add}
use Rattle.ed25519.specs.declared.base.Forms.{Forms}
use Rattle.ed25519.specs.Edwards25519.{p, d, curve, base_point}
use Rattle.ed25519.specs.Laws.Curve.{ed25519_is_complete}
use Rattle.ed25519.specs.Laws.Base.{base_on_curve}
use Rattle.ed25519.specs.BaseTable.{row_unit}
use Rattle.ed25519.specs.Combined.{Four}
use Rattle.ed25519.specs.Multiples.{IsPreparedEntry, IsBlankEntry, every_fourth}
use Rattle.ed25519.proofs.BaseRows.{unit_times}

-- the multiple by a digit is that of its entry, and zero's for none
pub forms_found : (digit mask : ℕ) (of_zero of_entry forms : Forms) (b : Coordinates) → mask ≡ mask_for (eqb 0 digit)
    → (mask ≡ ones → IsBlankEntry of_entry → (s : Coordinates) → IsPreparedEntry of_zero s → IsPreparedEntry forms s)
    → (mask ≡ 0 → (s : Coordinates) → IsPreparedEntry of_entry s → IsPreparedEntry forms s)
    → IsPreparedEntry of_zero neutral
    → (digit ≡ 0 → IsBlankEntry of_entry) → (0 < digit → IsPreparedEntry of_entry (times curve digit b))
    → IsPreparedEntry forms (times curve digit b)
forms_found digit mask of_zero of_entry forms b bits first second is_zero blank some = step (eqb 0 digit) refl
  where
    step : (c : Bool) → eqb 0 digit ≡ c → IsPreparedEntry forms (times curve digit b)
    step true is =
        let same : 0 ≡ digit = eqb-true 0 digit is in
        subst (λ k. IsPreparedEntry forms (times curve k b)) same
        (first (bits ∙ ap mask_for is) (blank (sym same)) neutral is_zero)
    step false is =
        let other : 0 ≡ digit → ⊥ = eqb-false 0 digit is in
        second (bits ∙ ap mask_for is) (times curve digit b) (some (omega (arith, other)))

-- no digit
pub no_digits : (r : Four) (m n : ℕ) → Stands r (times curve m base_point)
    → Stands r (times curve (m + every_fourth 0 n) base_point)
unfolding every_fourth
no_digits r m n of_r = subst (λ k. Stands r (times curve k base_point)) (none m) of_r
  where
    none : (m : ℕ) → m ≡ m + 0
    none m = omega arith

-- one digit more
pub digit_added : (r : Four) (m i n : ℕ)
    → Stands r (sum p d (times curve (m + every_fourth i n) base_point) (times curve (n / 65536 ^ i % 16) (row_unit i)))
    → Stands r (times curve (m + every_fourth (i + 1) n) base_point)
unfolding every_fourth
digit_added r m i n of_r =
    let digit = n / 65536 ^ i % 16 in
    subst (Stands r) (ap (sum p d (times curve (m + every_fourth i n) base_point)) (unit_times digit i)
    ∙ multiples_add p d ed25519_is_complete (m + every_fourth i n) (digit * 65536 ^ i) base_point base_on_curve
    ∙ ap (λ k. times curve k base_point) (whole m (every_fourth i n) (digit * 65536 ^ i)
    ∙ ap (λ k. m + every_fourth k n) (next i))) of_r
  where
    whole : (m a b : ℕ) → m + a + b ≡ m + (a + b)
    whole m a b = omega arith

    next : (i : ℕ) → suc i ≡ i + 1
    next i = omega arith

-- the places of the digits move up
pub place_next : (n i : ℕ) → n / 65536 ^ i / 65536 ≡ n / 65536 ^ (i + 1)
place_next n i = div-div-eq-div-mul n (65536 ^ i) 65536 ∙ ap (λ k. n / k) (sym (pow-suc 65536 i))
    ∙ ap (λ k. n / 65536 ^ k) (next i)
  where
    next : (i : ℕ) → suc i ≡ i + 1
    next i = omega arith

turned : (n a b : ℕ) → n / a / b ≡ n / b / a
turned n a b = div-div-eq-div-mul n a b ∙ ap (λ k. n / k) (mul_comm a b) ∙ sym (div-div-eq-div-mul n b a)

some : (k : ℕ) → 0 < 65536 ^ k
some zero = omega arith
some (suc k) = omega (arith, pow-suc 65536 k, some k)

-- all digits, by their places modulo four
all_up_to : (k n : ℕ) → every_fourth k n + 16 * every_fourth k (n / 16) + 256 * every_fourth k (n / 16 / 16)
    + 4096 * every_fourth k (n / 16 / 16 / 16) ≡ n % 65536 ^ k
unfolding every_fourth
all_up_to zero n = sym (none n)
  where
    none : (n : ℕ) → n % 1 ≡ 0
    none n = omega arith
all_up_to (suc k) n =
    let q = 65536 ^ k in
    let t = n / q in
    let one : n / 16 / q ≡ t / 16 = turned n 16 q in
    let two : n / 16 / 16 / q ≡ t / 16 / 16 = turned (n / 16) 16 q ∙ ap (λ a. a / 16) one in
    let three : n / 16 / 16 / 16 / q ≡ t / 16 / 16 / 16 = turned (n / 16 / 16) 16 q ∙ ap (λ a. a / 16) two in
    gathered (every_fourth k n) (every_fourth k (n / 16)) (every_fourth k (n / 16 / 16))
    (every_fourth k (n / 16 / 16 / 16)) (n / q % 16) (n / 16 / q % 16) (n / 16 / 16 / q % 16)
    (n / 16 / 16 / 16 / q % 16) q (t % 65536) (n % q) (all_up_to k n)
    (digits t ∙ ap (λ a. t % 16 + 16 * (a % 16) + 256 * (t / 16 / 16 % 16) + 4096 * (t / 16 / 16 / 16 % 16)) (sym one)
    ∙ ap (λ a. t % 16 + 16 * (n / 16 / q % 16) + 256 * (a % 16) + 4096 * (t / 16 / 16 / 16 % 16)) (sym two)
    ∙ ap (λ a. t % 16 + 16 * (n / 16 / q % 16) + 256 * (n / 16 / 16 / q % 16) + 4096 * (a % 16)) (sym three))
    ∙ sym (mod-mul n {m = 65536} {c = q} (omega arith) (some k)) ∙ ap (λ a. n % a)
    (mul_comm 65536 q ∙ sym (pow-suc 65536 k))
  where
    digits : (t : ℕ) → t % 65536 ≡ t % 16 + 16 * (t / 16 % 16) + 256 * (t / 16 / 16 % 16) + 4096 *
        (t / 16 / 16 / 16 % 16)
    digits t = omega arith

    gathered : (a b c e f g h i q t r : ℕ) → a + 16 * b + 256 * c + 4096 * e ≡ r → t ≡ f + 16 * g + 256 * h + 4096 * i
        → a + f * q + 16 * (b + g * q) + 256 * (c + h * q) + 4096 * (e + i * q) ≡ t * q + r
    gathered a b c e f g h i q t r is whole =
        let times : t * q ≡ (f + 16 * g + 256 * h + 4096 * i) * q = ap (λ n. n * q) whole in
        omega (arith, is, times)

pub all_digits : (n : ℕ) → n < 2 ^ 256 → 16 * (16 * (16 * (0 + every_fourth 16 (n / 16 / 16 / 16))
    + every_fourth 16 (n / 16 / 16)) + every_fourth 16 (n / 16)) + every_fourth 16 n ≡ n
all_digits n fits =
    spread (every_fourth 16 n) (every_fourth 16 (n / 16)) (every_fourth 16 (n / 16 / 16))
    (every_fourth 16 (n / 16 / 16 / 16)) ∙ all_up_to 16 n ∙ mod-eq_of_lt fits
  where
    spread : (a b c e : ℕ) → 16 * (16 * (16 * (0 + e) + c) + b) + a ≡ a + 16 * b + 256 * c + 4096 * e
    spread a b c e = omega arith
