-- The choice of an entry of a row by a signed digit.
use Rattle.std.proofs.Common.{◌≡◌, ℕ, zero, suc, ◌+◌, ◌-◌, ◌*◌, ◌%◌, ◌^◌, ◌<◌, ◌≤◌, List, length, get_or, sym, ap, ◌∙◌, arith}
use Rattle.std.proofs.Common.{refl, inl, inr, subst, Bool, true, false, eqb, if◌then◌else◌}
use Rattle.std.proofs.Math.Nat.{mod-eq_of_lt}
use Rattle.std.proofs.lemmas.Bool.{cases_eq, eq-eqb, ne_eqb, eqb-true, lt-ltb, le-ltb}
use Rattle.std.proofs.lemmas.Nat.{and_mask, mul-mod_second}
use Rattle.std.specs.Int.Bits.{bit_and, and_zero_r}
use Rattle.std.proofs.lemmas.List.{get_or_default}
use Rattle.ark_wide_fields.specs.Choices.{ones, mask_for}
use Rattle.ark_wide_fields.specs.Laws.Fp256.{wide_below}
use Rattle.ark_wide_fields.specs.Laws.Montgomery.{opposite}
use Rattle.edwards.specs.Entries.{no_entry}
use Rattle.jubjub.specs.declared.element.Jubjub.{Jubjub}
use Rattle.jubjub.specs.declared.element.sums.chosen.Chosen.{Chosen}
use Rattle.jubjub.specs.Edwards.{Coordinates}
use Rattle.jubjub.specs.Elements.{jubjub}
use Rattle.jubjub.specs.Jubjub.{p, d}
use Rattle.jubjub.specs.Laws.Group.{at-identity, at-opposite}
use Rattle.jubjub.specs.Tables.{entry_at, element_words, signed_at, AreEntryWords, IsChosen}
use Rattle.jubjub.specs.Values.{value}

-- an entry that was read, as the multiple by a digit
pub entry_read : (xs : List Jubjub) (first j : ℕ) (e : Jubjub) → first + 16 ≤ length xs → j < 16
    → e ≡ get_or xs (first + j) e → e ≡ get_or xs (first + j) jubjub.identity
entry_read xs first j e inside within is_e =
    is_e ∙ get_or_default xs (first + j) e jubjub.identity (omega (arith, inside, within))

pub entry_found : (xs : List Jubjub) (first size : ℕ) → 0 < size
    → get_or xs (first + (size - 1)) jubjub.identity ≡ entry_at xs first size
entry_found xs first zero some = absurd (omega (arith, some))
entry_found xs first (suc n) some = ap (λ k. get_or xs (first + k) jubjub.identity) (less n)
  where
    less : (n : ℕ) → suc n - 1 ≡ n
    less n = omega arith

-- the entry before a number's is that for the number; there is none before 0
pub same_number : (j size : ℕ) → j < 16 → size ≤ 16 → eqb j ((size + (2 ^ 64 - 1)) % 2 ^ 64) ≡ eqb (j + 1) size
same_number j size below small =
    elim (cases_eq (j + 1) size) [
      | inl same ↦ eq-eqb j ((size + (2 ^ 64 - 1)) % 2 ^ 64) (omega (arith, below, same))
          ∙ sym (eq-eqb (j + 1) size same)
      | inr other ↦ ne_eqb j ((size + (2 ^ 64 - 1)) % 2 ^ 64) (λ same. other (omega (arith, below, small, same)))
          ∙ sym (ne_eqb (j + 1) size other)
    ]

-- the words of an element, and zeros, are those of numbers
pub entry_forms : (e : Jubjub) (words : List (List ℕ)) → words ≡ element_words e
    → AreEntryWords words (value e.x) (value e.y) (value e.crossed)
entry_forms e words are = record {
  x_below = wide_below e.x;
  y_below = wide_below e.y;
  c_below = wide_below e.crossed;
  words_are = are;
}

pub no_forms : (words : List (List ℕ)) → words ≡ no_entry → AreEntryWords words 0 0 0
no_forms words none = record {
  x_below = omega arith;
  y_below = omega arith;
  c_below = omega arith;
  words_are = none;
}

-- a mask of ones for one number is for that one
pub is_number : (digit n mask : ℕ) → mask ≡ mask_for (eqb n digit) → mask ≡ ones → n ≡ digit
is_number digit n mask bits full = step (eqb n digit) refl
  where
    step : (c : Bool) → eqb n digit ≡ c → n ≡ digit
    step true is = eqb-true n digit is
    step false is =
        let none : mask ≡ 0 = bits ∙ ap mask_for is in
        absurd (omega (arith, none, full))

-- the form of zero
pub record IsZero (e : Jubjub) : Type 0 where
  pub x_is : value e.x ≡ 0
  pub y_is : value e.y ≡ 1
  pub crossed_is : value e.crossed ≡ 0

zero_form : IsZero jubjub.identity
zero_form =
    let e = jubjub.identity in
    record {
      x_is = ap (λ (a : Coordinates). a.x) at-identity;
      y_is = ap (λ (a : Coordinates). a.y) at-identity;
      crossed_is = e.crossed_is ∙ ap (λ (a : Coordinates). 2 * d * a.x * a.y % p) at-identity;
    }

pub zero_at : (xs : List Jubjub) (first size : ℕ) → size ≡ 0 → IsZero (entry_at xs first size)
zero_at xs first size none = subst (λ n. IsZero (entry_at xs first n)) (sym none) zero_form

-- 2 d x y of the negative
crossed_turned : (q k x y : ℕ) → 0 < q → x < q → (q - 2 * k * x * y % q) % q ≡ 2 * k * ((q - x) % q) * y % q
crossed_turned q k x y some below =
    sym (ap (λ n. n % q) (order k ((q - x) % q) y) ∙ mul-mod_second (2 * k * y) (q - x) q
    ∙ opposite (2 * k * y * (q - x)) (2 * k * x * y) (2 * k * y) q some (whole k x y (q - x) q (omega (arith, below))))
  where
    order : (k z y : ℕ) → 2 * k * z * y ≡ 2 * k * y * z
    order k z y = grind arith

    whole : (k x y r q : ℕ) → r + x ≡ q → 2 * k * y * r + 2 * k * x * y ≡ 2 * k * y * q
    whole k x y r q is =
        let all : 2 * k * y * (r + x) ≡ 2 * k * y * q = ap (λ n. 2 * k * y * n) is in
        omega (arith, all)

-- what was chosen for the negative of an element
pub negative_chosen : (found c : Chosen) (e : Jubjub) → value c.x ≡ (p - value found.x) % p → value c.y ≡ value found.y
    → value c.crossed ≡ (p - value found.crossed) % p → IsChosen found e → IsChosen c (jubjub.opposite e)
negative_chosen found c e is_x is_y is_crossed of_e =
    let f = jubjub.opposite e in
    record {
      x_is = is_x ∙ ap (λ n. (p - n) % p) of_e.x_is ∙ sym (ap (λ (a : Coordinates). a.x) (at-opposite e));
      y_is = is_y ∙ of_e.y_is ∙ sym (ap (λ (a : Coordinates). a.y) (at-opposite e));
      crossed_is = is_crossed ∙ ap (λ n. (p - n) % p) (of_e.crossed_is ∙ e.crossed_is)
          ∙ crossed_turned p d (value e.x) (value e.y) (omega arith) (wide_below e.x)
          ∙ sym (f.crossed_is ∙ ap (λ (a : Coordinates). 2 * d * a.x * a.y % p) (at-opposite e));
    }

-- the size of a digit
pub size_low : (digit below : ℕ) → below ≡ 0 → digit - bit_and (2 * (digit % 16)) below ≡ digit
size_low digit below none =
    let nothing : bit_and (2 * (digit % 16)) below ≡ 0 =
    ap (bit_and (2 * (digit % 16))) none ∙ and_zero_r (2 * (digit % 16)) in
    omega (arith, nothing)

pub size_high : (digit below : ℕ) → 16 ≤ digit → digit < 32 → below ≡ ones
    → digit - bit_and (2 * (digit % 16)) below ≡ 32 - digit
size_high digit below large small full =
    let same : bit_and (2 * (digit % 16)) below ≡ 2 * (digit % 16) =
    ap (bit_and (2 * (digit % 16))) full ∙ and_mask (2 * (digit % 16)) 64 ∙ mod-eq_of_lt (omega arith) in
    omega (arith, same, large, small)

pub signed_low : (xs : List Jubjub) (first c : ℕ) → c < 16 → entry_at xs first c ≡ signed_at xs first c
unfolding signed_at
signed_low xs first c l =
    sym (ap (λ b. if b then entry_at xs first c else jubjub.opposite (entry_at xs first (32 - c))) (lt-ltb c 16 l))

pub signed_high : (xs : List Jubjub) (first c : ℕ) → 16 ≤ c
    → jubjub.opposite (entry_at xs first (32 - c)) ≡ signed_at xs first c
unfolding signed_at
signed_high xs first c l =
    sym (ap (λ b. if b then entry_at xs first c else jubjub.opposite (entry_at xs first (32 - c))) (le-ltb c 16 l))
