-- Bytes among which one is not: those of names, and those of Base64.
use Rattle.std.proofs.Common.{zero, suc, ◌≡◌, ◌≢◌, ℕ, ◌+◌, ◌*◌, ◌/◌, ◌%◌, ◌<◌, ◌≤◌, ◌==◌, true, false, not, List, [], ◌∷◌, ◌++◌, length, get_or, replicate, inl, inr, refl, ap, sym, subst, ◌∙◌, arith}
use Rattle.std.proofs.lemmas.Bool.{and_parts, cases_lt, lt-ltb, le-ltb, ne_eqb, not-true}
use Rattle.std.proofs.lemmas.Str.{IsUtf8-from_is_utf8, chars-encodes}
use Rattle.std.specs.Char.{encode_utf8}
use Rattle.std.specs.List.{list_all}
use Rattle.std.specs.Str.{chars, encode_utf8_all, is_utf8}
use Rattle.base64.specs.Engines.{standard}
use Rattle.base64.specs.GeneralPurpose.{encode_of}
use Rattle.base64.specs.Rfc4648.{encode_symbols, padding_len}
use Rattle.hex.specs.Hex.{encode_lower, encode_with, lower_digits}
use Rattle.signed_notes.specs.Notes.{is_name, is_name_char}

-- no byte is the mark
abbrev pub Lacks : ℕ → List ℕ → Type 0
Lacks mark [] = Unit {0}
Lacks mark (b ∷ bytes) = ((b == mark) ≡ false) × Lacks mark bytes

pub lacks-append : (mark : ℕ) (a b : List ℕ) → Lacks mark a → Lacks mark b → Lacks mark (a ++ b)
lacks-append mark [] b l m = m
lacks-append mark (x ∷ a) b l m = (l.0, lacks-append mark a b l.1 m)

-- ---- characters in UTF-8

-- a byte that is not ASCII is not a mark that is
far : (mark b : ℕ) → mark < 128 → 128 ≤ b → (b == mark) ≡ false
far mark b low high = ne_eqb b mark (λ same. omega arith)

lacks-encode : (mark c : ℕ) → mark < 128 → c ≢ mark → Lacks mark (encode_utf8 c)
unfolding encode_utf8
lacks-encode mark c low other = elim (cases_lt c 128) [
  | inl one ↦ rw (lt-ltb c 128 one) (ne_eqb c mark other, tt)
  | inr two ↦ rw (le-ltb c 128 two) (elim (cases_lt c 2048) [
    | inl lt ↦ rw (lt-ltb c 2048 lt) (far mark _ low (omega arith), (far mark _ low (omega arith), tt))
    | inr three ↦ rw (le-ltb c 2048 three) (elim (cases_lt c 65536) [
      | inl lt ↦ rw (lt-ltb c 65536 lt)
          (far mark _ low (omega arith), (far mark _ low (omega arith), (far mark _ low (omega arith), tt)))
      | inr four ↦ rw (le-ltb c 65536 four) (
        far mark _ low (omega arith),
        (
          far mark _ low (omega arith),
          (far mark _ low (omega arith), (far mark _ low (omega arith), tt)),
        ),
      )
    ])
  ])
]

lacks-encodes : (mark : ℕ) (cs : List ℕ) → mark < 128 → is_name_char mark ≡ false → list_all is_name_char cs ≡ true
    → Lacks mark (encode_utf8_all cs)
lacks-encodes mark [] low not_named all = tt
lacks-encodes mark (c ∷ cs) low not_named all =
    let parts = and_parts (is_name_char c) (list_all is_name_char cs) all in
    let other : c ≢ mark =
    λ same. let named : is_name_char mark ≡ true = subst (λ x. is_name_char x ≡ true) same parts.0 in absurd cc in
    lacks-append mark (encode_utf8 c) (encode_utf8_all cs) (lacks-encode mark c low other)
    (lacks-encodes mark cs low not_named parts.1)

-- no name has a byte that is a character which no name has
pub lacks-name : (mark : ℕ) (name : List ℕ) → mark < 128 → is_name_char mark ≡ false → is_name name ≡ true
    → Lacks mark name
lacks-name mark name low not_named is =
    let parts = and_parts (is_utf8 name) _ is in
    let utf8 = IsUtf8-from_is_utf8 name parts.0 in
    let all = and_parts _ (list_all is_name_char (chars name)) parts.1 in
    let spelled : chars name ≡ utf8.0 = ap chars (sym utf8.1.1) ∙ chars-encodes utf8.0 utf8.1.0 in
    subst (Lacks mark) utf8.1.1 (lacks-encodes mark utf8.0 low not_named (subst
    (λ cs. list_all is_name_char cs ≡ true) spelled all.1))

-- ---- Base64

-- what a table has not
abbrev pub IsNowhere : ℕ → List ℕ → Type 0
IsNowhere mark table = (i : ℕ) → (get_or table i 0 == mark) ≡ false

pub nowhere : (mark : ℕ) (table : List ℕ) → (0 == mark) ≡ false → list_all (λ b. not (b == mark)) table ≡ true
    → IsNowhere mark table
nowhere mark [] zero_not all i = zero_not
nowhere mark (b ∷ table) zero_not all zero = not-true (b == mark) (and_parts (not (b == mark)) _ all).0
nowhere mark (b ∷ table) zero_not all (suc i) = nowhere mark table zero_not (and_parts (not (b == mark)) _ all).1 i

lacks-symbols : (mark : ℕ) (table bytes : List ℕ) → IsNowhere mark table → Lacks mark (encode_symbols table bytes)
unfolding encode_symbols
lacks-symbols mark table [] none = tt
lacks-symbols mark table (a ∷ []) none = (none (a / 4), (none (a % 4 * 16), tt))
lacks-symbols mark table (a ∷ b ∷ []) none = (none (a / 4), (none (a % 4 * 16 + b / 16), (none (b % 16 * 4), tt)))
lacks-symbols mark table (a ∷ b ∷ c ∷ bytes) none = (
  none (a / 4),
  (
    none (a % 4 * 16 + b / 16),
    (
      none (b % 16 * 4 + c / 64),
      (none (c % 64), lacks-symbols mark table bytes none),
    ),
  ),
)

lacks-replicate : (mark n pad : ℕ) → (pad == mark) ≡ false → Lacks mark (replicate n pad)
lacks-replicate mark zero pad other = tt
lacks-replicate mark (suc n) pad other = (other, lacks-replicate mark n pad other)

lacks-encoding : (mark : ℕ) (bytes : List ℕ) → IsNowhere mark standard.encode_table → (61 == mark) ≡ false
    → Lacks mark (encode_of standard bytes)
lacks-encoding mark bytes none other =
    lacks-append mark (encode_symbols standard.encode_table bytes) (replicate (padding_len (length bytes)) 61)
    (lacks-symbols mark standard.encode_table bytes none) (lacks-replicate mark (padding_len (length bytes)) 61 other)

-- Base64 has no line feed
pub lacks-base64 : (bytes : List ℕ) → Lacks 10 (encode_of standard bytes)
lacks-base64 bytes = lacks-encoding 10 bytes (nowhere 10 standard.encode_table refl refl) refl

-- ---- hexadecimal

lacks-hex : (mark : ℕ) (table bytes : List ℕ) → IsNowhere mark table → Lacks mark (encode_with table bytes)
unfolding encode_with
lacks-hex mark table [] none = tt
lacks-hex mark table (b ∷ bytes) none = (none (b / 16), (none (b % 16), lacks-hex mark table bytes none))

-- no digit is a plus sign
pub lacks-digits : (bytes : List ℕ) → Lacks 43 (encode_lower bytes)
lacks-digits bytes = lacks-hex 43 lower_digits bytes (nowhere 43 lower_digits refl refl)
