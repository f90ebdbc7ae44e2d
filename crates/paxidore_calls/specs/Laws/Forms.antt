-- Each number below the modulus has one spelling in each form.
use Rattle.std.proofs.Common.{◌≡◌, ℕ, ◌+◌, ◌-◌, ◌*◌, ◌/◌, ◌%◌, ◌^◌, ◌<◌, ◌≤◌, List, ◌++◌, length, take, Ok, Err, refl, sym, ap, ◌∙◌, inl, inr, arith}
use Rattle.std.proofs.Math.Nat.{mod-eq_of_lt, add-mul-mod_self_right}
use Rattle.std.proofs.lemmas.Bool.{cases_lt}
use Rattle.std.proofs.lemmas.Nat.{mul-mod_first, mul-mod_second, mul-pow, pow-mod, mod_below}
use Rattle.ark_base.specs.declared.error.SerializationError.TheVariants.{Truncated}
use Rattle.ark_base.specs.Digits.{below_at, bytes_for}
use Rattle.ark_base.specs.Reading.{IsBytes}
use Rattle.ark_base.specs.Spelling.{made_at}
use Rattle.ark_base.specs.Laws.Steps.{at_read, bind_ok}
use Rattle.ark_groups.specs.Field.{IsFieldModulus}
use Rattle.ark_groups.specs.Laws.Fp.{below_modulus_laws}
use Rattle.ark_groups.specs.declared.ff.words.Words.{Words}
use Rattle.ark_groups.specs.Words.{number}
use Rattle.ark_wide_fields.specs.Laws.Moduli.{at_least_two, field_modulus}
use Rattle.ark_wide_fields.specs.Moduli.{IsWide}
use Rattle.paxidore_calls.specs.Forms.{HasForm, divided, scaled_form, own_form}

pub own_form_laws : (p bits : ℕ) → IsFieldModulus p bits → HasForm p (own_form p bits)
own_form_laws p bits modulus = below_modulus_laws p bits modulus.digits

-- ---- numbers times 2^256

module _ (p : ℕ) (two : 2 ≤ p) (odd : p % 2 ≡ 1) where
  half_once : 2 * ((p + 1) / 2) % p ≡ 1
  half_once =
      let whole : 2 * ((p + 1) / 2) ≡ 1 + 1 * p = omega (arith, odd) in
      ap (λ n. n % p) whole ∙ add-mul-mod_self_right 1 1 p ∙ mod-eq_of_lt two

  all_halves : 2 ^ 256 * ((p + 1) / 2) ^ 256 % p ≡ 1
  all_halves =
      ap (λ n. n % p) (sym (mul-pow 2 ((p + 1) / 2) 256)) ∙ sym (pow-mod (2 * ((p + 1) / 2)) 256 p)
      ∙ ap (λ n. n ^ 256 % p) half_once ∙ mod-eq_of_lt two

  both_ways : (n : ℕ) → n * (2 ^ 256 * ((p + 1) / 2) ^ 256) % p ≡ n % p
  both_ways n =
      let all = 2 ^ 256 * ((p + 1) / 2) ^ 256 in
      sym (mul-mod_second n all p) ∙ ap (λ m. n * m % p) all_halves ∙ ap (λ m. m % p) (alone n)
    where
      alone : (n : ℕ) → n * 1 ≡ n
      alone n = omega arith

  pub divided_scaled : (n : ℕ) → n < p → divided p (n * 2 ^ 256 % p) ≡ n
  unfolding divided
  divided_scaled n below =
      let half = ((p + 1) / 2) ^ 256 in
      mul-mod_first (n * 2 ^ 256) half p ∙ ap (λ m. m % p) (ring n (2 ^ 256) half) ∙ both_ways n ∙ mod-eq_of_lt below
    where
      ring : (n a b : ℕ) → n * a * b ≡ n * (a * b)
      ring n a b = grind arith

  pub scaled_divided : (n : ℕ) → n < p → divided p n * 2 ^ 256 % p ≡ n
  unfolding divided
  scaled_divided n below =
      let half = ((p + 1) / 2) ^ 256 in
      mul-mod_first (n * half) (2 ^ 256) p ∙ ap (λ m. m % p) (ring n (2 ^ 256) half) ∙ both_ways n
      ∙ mod-eq_of_lt below
    where
      ring : (n a b : ℕ) → n * b * a ≡ n * (a * b)
      ring n a b = grind arith

  pub divided_below : (n : ℕ) → divided p n < p
  unfolding divided
  divided_below n = mod_below _ p (omega (arith, two))

-- ---- elements by their Montgomery forms

module _ (p bits : ℕ) (two : 2 ≤ p) (odd : p % 2 ≡ 1) (own : HasForm p (own_form p bits)) where
  again : (n : ℕ) (rest : List ℕ) → n < p
      → (scaled_form p bits).reads ((scaled_form p bits).spells n ++ rest) ≡ Ok (n, rest)
  unfolding made_at
  again n rest below =
      rw (own.again (n * 2 ^ 256 % p) rest (mod_below _ p (omega (arith, two))), divided_scaled p two odd n below) refl

  spelled : (bytes : List ℕ) (n : ℕ) (rest : List ℕ) → IsBytes bytes → (scaled_form p bits).reads bytes ≡ Ok (n, rest)
      → (n < p) × (bytes ≡ (scaled_form p bits).spells n ++ rest)
  unfolding made_at
  spelled bytes n rest fitting e =
      let step = bind_ok (below_at p (bytes_for bits) bytes) (λ v. Ok (divided p v.0, v.1)) (n, rest) e in
      let m = step.0.0 in
      let one = own.spelled bytes m step.0.1 fitting step.1 in
      at_read (λ n rest. (n < p) × (bytes ≡ (scaled_form p bits).spells n ++ rest)) (divided p m) n step.0.1 rest step.2
      (divided_below p two odd m, rw (scaled_divided p two odd m one.0) one.1)

  cut : (n k : ℕ) → n < p → k < length ((scaled_form p bits).spells n)
      → (scaled_form p bits).reads (take k ((scaled_form p bits).spells n)) ≡ Err Truncated
  unfolding made_at
  cut n k below short = rw (own.cut (n * 2 ^ 256 % p) k (mod_below _ p (omega (arith, two))) short) refl

  laws_of_scaled : HasForm p (scaled_form p bits)
  laws_of_scaled = record { again = again; spelled = spelled; cut = cut }

-- a modulus of four words is odd
pub odd_modulus : {p one square : Words} {bits inverse : ℕ} → IsWide p bits inverse one square → number p % 2 ≡ 1
odd_modulus {p} {one} {square} {bits} {inverse} laws = odd (number p) inverse laws.turned
  where
    factor : (p inverse half : ℕ) → p ≡ 2 * half → inverse * p ≡ 2 * (inverse * half)
    factor p inverse half e = let h = ap (λ n. inverse * n) e in grind arith

    odd : (p inverse : ℕ) → inverse * p % 2 ^ 64 ≡ 2 ^ 64 - 1 → p % 2 ≡ 1
    odd p inverse turned =
        elim (cases_lt 0 (p % 2)) [
          | inl more ↦ omega (arith, more)
          | inr none ↦ absurd (omega (arith, turned, factor p inverse (p / 2) (omega (arith, none))))
        ]

pub scaled_form_laws : {p one square : Words} {bits inverse : ℕ} → IsWide p bits inverse one square
    → HasForm (number p) (scaled_form (number p) bits)
scaled_form_laws {p} {one} {square} {bits} {inverse} laws =
    laws_of_scaled (number p) bits (at_least_two laws) (odd_modulus laws)
    (own_form_laws (number p) bits (field_modulus laws))
