-- Bytes that digits spell in hexadecimal.
use Rattle.std.proofs.Common.{◌≡◌, ℕ, suc, ◌+◌, ◌-◌, ◌*◌, ◌/◌, ◌%◌, ◌<◌, ◌≤◌, Bool, true, false, cond, List, [], ◌∷◌, ◌++◌, length}
use Rattle.std.proofs.Common.{get_or, set, take, drop, Option, Some, None, Result, Ok, Err, refl, sym, ◌∙◌, ap, ap₂, subst, arith, append_assoc}
use Rattle.std.specs.Prelude.{nat_le, ◌&&◌, unwrap_or}
use Rattle.std.specs.Result.{result_ok}
use Rattle.std.proofs.Math.Seq.{drop-cons}
use Rattle.std.proofs.Math.ListN.{length-set}
use Rattle.std.proofs.lemmas.List.{append-nil, drop_all, take_all, take_more, take_more_set}
use Rattle.std.proofs.lemmas.Bool.Decides.{nat_tests}
use Rattle.hex.specs.Hex.{decode_pairs, digit_or_error, encode_with, hex_digit_value, lower_digits, ◌>>=◌}
use Rattle.hex.specs.declared.error.FromHexError.{FromHexError}
use Rattle.acp_run.specs.Tokens.{digit_number}

-- the bytes of digits, the first of them at an index, if all are digits
abbrev pub spelled : ℕ → List ℕ → Option (List ℕ)
spelled i digits = result_ok (decode_pairs i digits)

-- the byte of two digits before the bytes of others
abbrev joined : Option ℕ → Option ℕ → ℕ → ℕ → ℕ → Result (List ℕ) FromHexError → Result (List ℕ) FromHexError
joined first second high low i others =
    (digit_or_error high i first >>= λ h. digit_or_error low (i + 1) second >>= λ l. Ok (h * 16 + l))
    >>= λ byte. others >>= λ bytes. Ok (byte ∷ bytes)

joined-some : (first second : Option ℕ) (high low i : ℕ) (others : Result (List ℕ) FromHexError) (more : List ℕ)
    → unwrap_or first 255 ≤ 15 → unwrap_or second 255 ≤ 15 → result_ok others ≡ Some more
    → result_ok (joined first second high low i others)
    ≡ Some ((unwrap_or first 255 * 16 + unwrap_or second 255) ∷ more)
joined-some (Some x) (Some y) high low i (Ok bytes) more a b e = cc
joined-some (Some x) (Some y) high low i (Err fault) more a b e = cc
joined-some (Some x) None high low i others more a b e = absurd (omega arith)
joined-some None second high low i others more a b e = absurd (omega arith)

joined-none : (first second : Option ℕ) (high low i : ℕ) (others : Result (List ℕ) FromHexError)
    → result_ok others ≡ None → result_ok (joined first second high low i others) ≡ None
joined-none (Some x) (Some y) high low i (Ok bytes) e = cc
joined-none (Some x) (Some y) high low i (Err fault) e = refl
joined-none (Some x) None high low i others e = refl
joined-none None second high low i others e = refl

no_first : (first second : Option ℕ) (high low i : ℕ) (others : Result (List ℕ) FromHexError) → first ≡ None
    → result_ok (joined first second high low i others) ≡ None
no_first (Some x) second high low i others e = cc
no_first None second high low i others e = refl

no_second : (first second : Option ℕ) (high low i : ℕ) (others : Result (List ℕ) FromHexError) → second ≡ None
    → result_ok (joined first second high low i others) ≡ None
no_second (Some x) (Some y) high low i others e = cc
no_second (Some x) None high low i others e = refl
no_second None second high low i others e = refl

-- a digit's number is below 16
large : (a b c : Bool) (x y z : ℕ) → (a ≡ true → x ≤ 15) → (b ≡ true → y ≤ 15) → (c ≡ true → z ≤ 15)
    → 15 < unwrap_or (cond a (Some x) (cond b (Some y) (cond c (Some z) None))) 255
    → (let digit : Option ℕ = cond a (Some x) (cond b (Some y) (cond c (Some z) None)) in digit ≡ None)
large true b c x y z p q r l = absurd (omega (arith, p refl))
large false true c x y z p q r l = absurd (omega (arith, q refl))
large false false true x y z p q r l = absurd (omega (arith, r refl))
large false false false x y z p q r l = refl

upper : (c : ℕ) → (nat_le 65 c && nat_le c 70) ≡ true → c - 55 ≤ 15
upper c e = grind (arith, nat_tests)

lower : (c : ℕ) → (nat_le 97 c && nat_le c 102) ≡ true → c - 87 ≤ 15
lower c e = grind (arith, nat_tests)

figure : (c : ℕ) → (nat_le 48 c && nat_le c 57) ≡ true → c - 48 ≤ 15
figure c e = grind (arith, nat_tests)

no_digit : (c : ℕ) → 15 < digit_number c → hex_digit_value c ≡ None
no_digit c l = large _ _ _ (c - 55) (c - 87) (c - 48) (upper c) (lower c) (figure c) l

-- what is known of the bytes of all digits once so many bytes are written
pub record IsWritten (digits bytes : List ℕ) (i : ℕ) : Type 0 where
  pub some : (rest : List ℕ) → spelled (2 * i) (drop (2 * i) digits) ≡ Some rest
      → spelled 0 digits ≡ Some (take i bytes ++ rest)
  pub none : spelled (2 * i) (drop (2 * i) digits) ≡ None → spelled 0 digits ≡ None

-- the digits from a place on: two, and the others
two_digits : (digits : List ℕ) (k : ℕ) → k + 1 < length digits
    → drop k digits ≡ get_or digits k 0 ∷ get_or digits (k + 1) 0 ∷ drop (k + 2) digits
two_digits digits k l =
    let one : suc k ≡ k + 1 = omega arith in
    let two : suc (k + 1) ≡ k + 2 = omega arith in
    drop-cons digits k 0 (omega arith)
    ∙ ap (λ rest. get_or digits k 0 ∷ rest) (ap (λ n. drop n digits) one ∙ drop-cons digits (k + 1) 0 l
    ∙ ap (λ n. get_or digits (k + 1) 0 ∷ drop n digits) two)

spelled-some : (i high low : ℕ) (rest more : List ℕ) → digit_number high ≤ 15 → digit_number low ≤ 15
    → spelled (i + 2) rest ≡ Some more
    → spelled i (high ∷ low ∷ rest) ≡ Some ((digit_number high * 16 + digit_number low) ∷ more)
unfolding decode_pairs
spelled-some i high low rest more a b e =
    joined-some (hex_digit_value high) (hex_digit_value low) high low i (decode_pairs (i + 2) rest) more a b e

spelled-none : (i high low : ℕ) (rest : List ℕ) → spelled (i + 2) rest ≡ None → spelled i (high ∷ low ∷ rest) ≡ None
unfolding decode_pairs
spelled-none i high low rest e =
    joined-none (hex_digit_value high) (hex_digit_value low) high low i (decode_pairs (i + 2) rest) e

no_high : (i high low : ℕ) (rest : List ℕ) → 15 < digit_number high → spelled i (high ∷ low ∷ rest) ≡ None
unfolding decode_pairs
no_high i high low rest l =
    no_first (hex_digit_value high) (hex_digit_value low) high low i (decode_pairs (i + 2) rest) (no_digit high l)

no_low : (i high low : ℕ) (rest : List ℕ) → 15 < digit_number low → spelled i (high ∷ low ∷ rest) ≡ None
unfolding decode_pairs
no_low i high low rest l =
    no_second (hex_digit_value high) (hex_digit_value low) high low i (decode_pairs (i + 2) rest) (no_digit low l)

module _ (digits bytes : List ℕ) (i : ℕ) (fits : length digits ≡ 2 * length bytes) (l : i < length bytes)
    (written : IsWritten digits bytes i) where
  cut : drop (2 * i) digits ≡ get_or digits (2 * i) 0 ∷ get_or digits (2 * i + 1) 0 ∷ drop (2 * i + 2) digits
  cut = two_digits digits (2 * i) (omega arith)

  next : ◌≡◌ {A = ℕ} (2 * (i + 1)) (2 * i + 2)
  next = omega arith

  pub written-more : digit_number (get_or digits (2 * i) 0) ≤ 15 → digit_number (get_or digits (2 * i + 1) 0) ≤ 15
      → IsWritten digits (set bytes i (digit_number (get_or digits (2 * i) 0) * 16
      + digit_number (get_or digits (2 * i + 1) 0))) (i + 1)
  written-more high low = record {
    some = λ rest e.
        let b = digit_number (get_or digits (2 * i) 0) * 16 + digit_number (get_or digits (2 * i + 1) 0) in
        let others = subst (λ n. spelled n (drop n digits) ≡ Some rest) next e in
        written.some (b ∷ rest) (ap (spelled (2 * i)) cut
        ∙ spelled-some (2 * i) _ _ (drop (2 * i + 2) digits) rest high low others)
        ∙ ap Some (sym (append_assoc (take i bytes) (b ∷ []) rest)
        ∙ ap (λ s. s ++ rest) (sym (take_more_set bytes i b l)));
    none = λ e.
        written.none (ap (spelled (2 * i)) cut ∙ spelled-none (2 * i) _ _ (drop (2 * i + 2) digits)
        (subst (λ n. spelled n (drop n digits) ≡ None) next e));
  }

  pub high_is_none : 15 < digit_number (get_or digits (2 * i) 0) → spelled 0 digits ≡ None
  high_is_none none =
      written.none (ap (spelled (2 * i)) cut ∙ no_high (2 * i) _ _ (drop (2 * i + 2) digits) none)

  pub low_is_none : 15 < digit_number (get_or digits (2 * i + 1) 0) → spelled 0 digits ≡ None
  low_is_none none =
      written.none (ap (spelled (2 * i)) cut ∙ no_low (2 * i) _ _ (drop (2 * i + 2) digits) none)

nothing_spelled : (n : ℕ) → spelled n [] ≡ Some []
unfolding decode_pairs
nothing_spelled n = refl

pub written-all : (digits bytes : List ℕ) (i : ℕ) → length digits ≡ 2 * length bytes → i ≡ length bytes
    → IsWritten digits bytes i → spelled 0 digits ≡ Some bytes
written-all digits bytes i fits e written =
    written.some [] (ap (spelled (2 * i)) (drop_all (2 * i) digits (omega arith)) ∙ nothing_spelled (2 * i))
    ∙ ap Some (append-nil (take i bytes) ∙ take_all i bytes (omega arith))

-- ---- digits of bytes

encode_with-append : (t xs : List ℕ) (b : ℕ)
    → encode_with t (xs ++ (b ∷ [])) ≡ encode_with t xs ++ (get_or t (b / 16) 0 ∷ get_or t (b % 16) 0 ∷ [])
unfolding encode_with
encode_with-append t [] b = refl
encode_with-append t (x ∷ xs) b =
    ap (λ rest. get_or t (x / 16) 0 ∷ get_or t (x % 16) 0 ∷ rest) (encode_with-append t xs b)

-- the digits of the first bytes, once so many are written
pub record AreSpelled (bytes digits : List ℕ) (i : ℕ) : Type 0 where
  pub front : take (2 * i) digits ≡ encode_with lower_digits (take i bytes)

pub spelled-first : (bytes digits : List ℕ) → AreSpelled bytes digits 0
unfolding encode_with
spelled-first bytes digits = record { front = refl }

take_two_set : (s : List ℕ) (k a b : ℕ) → k + 1 < length s
    → take (k + 2) (set (set s k a) (k + 1) b) ≡ take k s ++ (a ∷ b ∷ [])
take_two_set s k a b l =
    let two : k + 1 + 1 ≡ k + 2 = omega arith in
    ap (λ n. take n (set (set s k a) (k + 1) b)) (sym two)
    ∙ take_more_set (set s k a) (k + 1) b (omega (arith, length-set {A = ℕ}))
    ∙ ap (λ front. front ++ (b ∷ [])) (take_more_set s k a (omega arith))
    ∙ append_assoc (take k s) (a ∷ []) (b ∷ [])

pub spelled-next : (bytes digits : List ℕ) (i high low : ℕ) → length digits ≡ 2 * length bytes → i < length bytes
    → high ≡ get_or lower_digits (get_or bytes i 0 / 16) 0 → low ≡ get_or lower_digits (get_or bytes i 0 % 16) 0
    → AreSpelled bytes digits i → AreSpelled bytes (set (set digits (2 * i) high) (2 * i + 1) low) (i + 1)
spelled-next bytes digits i high low fits l is_high is_low spelled = record {
  front =
      let next : 2 * (i + 1) ≡ 2 * i + 2 = omega arith in
      ap (λ n. take n (set (set digits (2 * i) high) (2 * i + 1) low)) next
      ∙ take_two_set digits (2 * i) high low (omega arith)
      ∙ ap (λ front. front ++ (high ∷ low ∷ [])) spelled.front
      ∙ ap₂ (λ h k. encode_with lower_digits (take i bytes) ++ (h ∷ k ∷ [])) is_high is_low
      ∙ sym (encode_with-append lower_digits (take i bytes) (get_or bytes i 0))
      ∙ ap (encode_with lower_digits) (sym (take_more bytes i 0 l));
}

pub spelled-all : (bytes digits : List ℕ) (i : ℕ) → length digits ≡ 2 * length bytes → i ≡ length bytes
    → AreSpelled bytes digits i → digits ≡ encode_with lower_digits bytes
spelled-all bytes digits i fits e spelled =
    sym (take_all (2 * i) digits (omega arith)) ∙ spelled.front
    ∙ ap (encode_with lower_digits) (take_all i bytes (omega arith))
