-- The numbers that digits spell.
use Rattle.std.proofs.Common.{◌≡◌, ◌≢◌, ◌⊎◌, ℕ, ◌<◌, ◌≤◌, ◌^◌, ◌==◌, nat_lt, Bool, true, false, List, length, get_or, Some, None, Result, Ok, Err, refl, sym, ap, ◌∙◌, arith, subst, inl, inr}
use Rattle.std.specs.Prelude.{◌&&◌, MatchResult}
use Rattle.std.specs.Result.{result_ok, OkIff}
use Rattle.std.specs.Str.{IsUtf8, all_ascii_digits}
use Rattle.std.specs.Str.Parse.{ParsesUnsigned, digits_value}
use Rattle.std.proofs.lemmas.Bool.{lt-ltb, ltb-true, eqb-true, false_from_ne_true}
use Rattle.std.proofs.lemmas.Fmt.{IsAscii-from_digits}
use Rattle.std.proofs.lemmas.Str.{IsUtf8-from_ascii}
use Rattle.std.proofs.lemmas.Str.Parse.{IsNumeralModel, numerals_by_value, tells_all_ascii_digits, parse_plain}
use Rattle.decimals.specs.Decimals.{is_number, decimal_number}

abbrev IsDigits : List ℕ → Type 0
IsDigits bs = all_ascii_digits bs ≡ true

numerals : IsNumeralModel IsDigits (digits_value 10)
numerals = numerals_by_value IsDigits tells_all_ascii_digits

-- the first byte is no zero that others follow
abbrev pub IsPlain : List ℕ → ℕ → Type 0
IsPlain bs first = ((first ≡ 48) × (length bs ≤ 1)) ⊎ (first ≢ 48)

not_both : (b c : Bool) → ((b ≡ true) × (c ≡ true) → ⊥) → (b && c) ≡ false
not_both true true h = absurd (h (refl, refl))
not_both true false h = refl
not_both false c h = refl

module _ (bs : List ℕ) (first : ℕ) (first_is : first ≡ get_or bs 0 0) (some : 0 < length bs)
    (plain : IsPlain bs first) where
  no_zero : (nat_lt 1 (length bs) && (get_or bs 0 0 == 48)) ≡ false
  no_zero = not_both (nat_lt 1 (length bs)) (get_or bs 0 0 == 48) (λ h.
      let more : 1 < length bs = ltb-true 1 (length bs) h.0 in
      let zero : first ≡ 48 = first_is ∙ eqb-true (get_or bs 0 0) 48 h.1 in
      elim plain [ inl one ↦ absurd (omega (arith, more, one.1)) | inr other ↦ other zero ])

  is_number-digits : is_number bs ≡ (all_ascii_digits bs && nat_lt (digits_value 10 bs) (2 ^ 64))
  is_number-digits = rw (lt-ltb 0 (length bs) some, no_zero) refl

  number_of-by : {E : Type 0} (r : Result ℕ E) → OkIff r (IsDigits bs × (0 < length bs) × (digits_value 10 bs < 2 ^ 64))
      (digits_value 10 bs) → result_ok r ≡ decimal_number bs
  number_of-by (Ok n) read = rw (is_number-digits, read.0.0, lt-ltb (digits_value 10 bs) (2 ^ 64) read.0.2)
      (ap (λ (n : ℕ). Some n) read.1)
  number_of-by (Err e) none =
      let no : (all_ascii_digits bs && nat_lt (digits_value 10 bs) (2 ^ 64)) ≡ false = not_both (all_ascii_digits bs)
      (nat_lt (digits_value 10 bs) (2 ^ 64)) (λ h. none (h.0, some, ltb-true (digits_value 10 bs) (2 ^ 64) h.1)) in
      rw (is_number-digits, no) refl

  pub number_of-parsed : {E : Type 0} (r : Result ℕ E) → first ≢ 43 → ParsesUnsigned 64 10 bs r → result_ok r
      ≡ decimal_number bs
  number_of-parsed r no_plus read =
      number_of-by r (parse_plain numerals 64 bs r read (λ plus. no_plus (first_is ∙ plus)))

  pub number_of-no_text : (IsUtf8 bs → ⊥) → None ≡ decimal_number bs
  number_of-no_text foreign =
      let other : all_ascii_digits bs ≡ false = false_from_ne_true (all_ascii_digits bs)
      (λ digits. foreign (IsUtf8-from_ascii bs (IsAscii-from_digits bs (numerals.to bs digits)))) in
      rw (is_number-digits, other) refl

-- what holds of a result's value, and of its error
pub of_ok : {A E : Type 0} (P : A → Type 0) (Q : E → Type 0) (r : Result A E) (x : A) → Some x ≡ result_ok r
    → MatchResult r P Q → P x
of_ok P Q (Ok y) x e h = let same : x ≡ y = cc in subst P (sym same) h
of_ok P Q (Err e') x e h = absurd cc

pub of_err : {A E : Type 0} (P : A → Type 0) (Q : E → Type 0) (r : Result A E) → None ≡ result_ok r → MatchResult r P Q
    → (e : E) × Q e
of_err P Q (Ok y) e h = absurd cc
of_err P Q (Err e') e h = (e', h)
