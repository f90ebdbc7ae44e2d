-- Signed notes, as C2SP's signed-note and Go's golang.org/x/mod/sumdb/note have them: a text, an empty line, and a
-- line for each signature.
use Rattle.std.specs.Prelude.{◌≡◌, ℕ, ◌-◌, ◌<◌, ◌≤◌, ◌==◌, ◌&&◌, ◌||◌, nat_lt, nat_le, not, Bool, true, List, [], ◌∷◌, ◌++◌, length, get_or, All}
use Rattle.std.specs.Char.{is_whitespace}
use Rattle.std.specs.List.{list_all}
use Rattle.std.specs.Str.{chars, is_utf8}
use Rattle.base64.specs.GeneralPurpose.{encode_of, IsBytes}
use Rattle.base64.specs.Engines.{standard}

-- a signature: the name of the key, the key's hash, and what the algorithm made
pub record SignatureParts : Type 0 where
  pub name : List ℕ
  pub hash : List ℕ
  pub bytes : List ℕ

-- a text and the signatures behind it
pub record NoteParts : Type 0 where
  pub text : List ℕ
  pub signatures : List SignatureParts

-- how the line of a signature begins: an em dash in UTF-8, and a space
abbrev pub dash : List ℕ
dash = 226 ∷ 128 ∷ 148 ∷ 32 ∷ []

-- the line of a signature, without its line feed: the name, a space, and in Base64 the hash with the bytes
abbrev pub line_of : SignatureParts → List ℕ
line_of s = dash ++ (s.name ++ (32 ∷ encode_of standard (s.hash ++ s.bytes)))

-- the lines of signatures
abbrev pub signature_lines : List SignatureParts → List ℕ
signature_lines [] = []
signature_lines (s ∷ more) = line_of s ++ (10 ∷ signature_lines more)

-- the bytes of a note
abbrev pub note_of : NoteParts → List ℕ
note_of note = note.text ++ (10 ∷ signature_lines note.signatures)

-- a byte that may stand in a text: a line feed, or none of the control characters of ASCII below the space
abbrev pub is_plain : ℕ → Bool
is_plain byte = byte == 10 || nat_le 32 byte

-- UTF-8 without control characters but line feeds
abbrev pub is_text : List ℕ → Bool
is_text bytes = is_utf8 bytes && list_all is_plain bytes

-- the last byte is a line feed
abbrev pub is_ended : List ℕ → Bool
is_ended bytes = get_or bytes (length bytes - 1) 0 == 10

-- a character that may stand in a name: no white space, no plus sign and no control character below the space
abbrev pub is_name_char : ℕ → Bool
is_name_char c = nat_le 32 c && (not (is_whitespace c) && not (c == 43))

-- the name of a key: UTF-8, not empty, of such characters
abbrev pub is_name : List ℕ → Bool
is_name name = is_utf8 name && (nat_lt 0 (length name) && list_all is_name_char (chars name))

-- how many bytes a note has at most
abbrev pub most_bytes : ℕ
most_bytes = 1000000

-- how many signatures a note has at most
abbrev pub most_signatures : ℕ
most_signatures = 100

-- what may stand in the line of a signature
pub record IsSigned (s : SignatureParts) : Type 0 where
  pub name_is : is_name s.name ≡ true
  pub hash_is : length s.hash ≡ 4
  pub some : 0 < length s.bytes

-- the hashes and the bytes of signatures are lists of bytes
abbrev pub AreSignatureBytes : List SignatureParts → Type 0
AreSignatureBytes signatures = All (λ s. IsBytes (s.hash ++ s.bytes)) signatures

-- what may stand in a note
pub record IsNote (note : NoteParts) : Type 0 where
  pub text_is : is_text note.text ≡ true
  pub ended : is_ended note.text ≡ true
  pub some : 0 < length note.signatures
  pub few : length note.signatures ≤ most_signatures
  pub signed : All IsSigned note.signatures
  pub short : length (note_of note) ≤ most_bytes
