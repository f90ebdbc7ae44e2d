-- The text of a key is read as the key, and as nothing else.
use Rattle.std.proofs.Common.{suc, ◌≡◌, ℕ, ◌==◌, Bool, true, List, [], ◌∷◌, ◌++◌, length, drop, get_or, Ok, refl, ap, ap₂, sym, subst, ◌∙◌, arith, lit<}
use Rattle.std.proofs.lemmas.Bool.{eq-eqb, eqb-true}
use Rattle.std.proofs.lemmas.Slice.Eq.{bytes_eq-Decides}
use Rattle.std.specs.Str.{bytes_eq}
use Rattle.ark_base.specs.Outcome.{◌>>=◌}
use Rattle.base64.specs.Engines.{standard}
use Rattle.base64.specs.GeneralPurpose.{IsBytes, encode_of}
use Rattle.base64.proofs.EngineFacts.{decode_of-encode_of}
use Rattle.hex.specs.Hex.{encode_lower}
use Rattle.signed_notes.specs.Cutting.{cut}
use Rattle.signed_notes.specs.Faults.{or_fault}
use Rattle.signed_notes.specs.Keys.{IsNoteKey, KeyParts, Spelled, algorithm_fault, checked, key_hash, key_text, read_key, spelled_behind, spelled_by, spelled_from, spelled_in}
use Rattle.signed_notes.specs.Notes.{is_name}
use Rattle.signed_notes.specs.Reading.{bytes_in}
use Rattle.signed_notes.specs.declared.fault.Fault.TheVariants.{Algorithm, Key, KeyHash, Name}
use Rattle.signed_notes.proofs.Lacking.{lacks-digits, lacks-name}
use Rattle.signed_notes.proofs.Outcomes.{bind-ok, only_if-ok, or_fault-ok}
use Rattle.signed_notes.proofs.ReadBack.{back_bytes, cut-whole, ok_same, same_bytes, strict}
use Rattle.signed_notes.proofs.WrittenNotes.{cut-written}

pub key-read : (is_algorithm : ℕ → Bool) (public : List ℕ → List ℕ) (key : KeyParts) → IsNoteKey is_algorithm key
    → IsBytes (key.algorithm ∷ key.bytes) → read_key is_algorithm public (key_text public key) ≡ Ok key
key-read is_algorithm public key is are =
    let hash = encode_lower (key_hash key.name key.algorithm (public key.bytes)) in
    let word = encode_of standard (key.algorithm ∷ key.bytes) in
    let long : length (key.algorithm ∷ key.bytes) ≡ 33 = omega (arith, is.long) in
    rw (
      cut-written 43 key.name (hash ++ (43 ∷ word)) (lacks-name 43 key.name (lit< tt) refl is.name_is),
      cut-written 43 hash word (lacks-digits (key_hash key.name key.algorithm (public key.bytes))),
      is.name_is,
      decode_of-encode_of standard (key.algorithm ∷ key.bytes) refl are,
      eq-eqb (length (key.algorithm ∷ key.bytes)) 33 long,
      is.algorithm_is,
      (bytes_eq-Decides hash hash).1 refl,
    ) refl

-- what a key that was read was spelled as
record IsSpelled (is_algorithm : ℕ → Bool) (public : List ℕ → List ℕ) (s : Spelled) (key : KeyParts) : Type 0 where
  hash_is : s.hash ≡ encode_lower (key_hash key.name key.algorithm (public key.bytes))
  name_is : s.name ≡ key.name
  bytes_are : s.algorithm ∷ s.bytes ≡ key.algorithm ∷ key.bytes
  algorithm_is : is_algorithm key.algorithm ≡ true
  long : length s.bytes ≡ length key.bytes

checked-key : (is_algorithm : ℕ → Bool) (public : List ℕ → List ℕ) (s : Spelled) (key : KeyParts)
    → checked is_algorithm public s ≡ Ok key → IsSpelled is_algorithm public s key
checked-key is_algorithm public s key e =
    let algorithm_is = only_if-ok (is_algorithm s.algorithm) (algorithm_fault Algorithm s.algorithm) _ key e in
    let own = encode_lower (key_hash s.name s.algorithm (public s.bytes)) in
    let hash_is = only_if-ok (bytes_eq s.hash own) KeyHash _ key algorithm_is.1 in
    let built : KeyParts = record { name = s.name; algorithm = s.algorithm; bytes = s.bytes } in
    subst (IsSpelled is_algorithm public s) (ok_same built key hash_is.1) (record {
      hash_is = same_bytes s.hash own hash_is.0;
      name_is = refl;
      bytes_are = refl;
      algorithm_is = algorithm_is.0;
      long = refl;
    })

-- what a text that spells a key is
record IsSpelling (text : List ℕ) (s : Spelled) : Type 0 where
  whole : s.name ++ (43 ∷ (s.hash ++ (43 ∷ encode_of standard (s.algorithm ∷ s.bytes)))) ≡ text
  name_is : is_name s.name ≡ true
  long : length s.bytes ≡ 32

first-and-rest : (bytes : List ℕ) (n : ℕ) → length bytes ≡ suc n → get_or bytes 0 0 ∷ drop 1 bytes ≡ bytes
first-and-rest [] n e = absurd (omega arith)
first-and-rest (b ∷ bytes) n e = refl

rest-long : (bytes : List ℕ) (n : ℕ) → length bytes ≡ suc n → length (drop 1 bytes) ≡ n
rest-long [] n e = absurd (omega arith)
rest-long (b ∷ bytes) n e = omega (arith, e)

spelled-text : (text : List ℕ) (s : Spelled) → IsBytes text → spelled_in text ≡ Ok s → IsSpelling text s
spelled-text text s are e =
    let first = bind-ok (or_fault (cut 43 text) Key) spelled_from s e in
    let name = first.0.0 in
    let rest = first.0.1 in
    let whole : name ++ (43 ∷ rest) ≡ text =
    cut-whole 43 text name rest (or_fault-ok (cut 43 text) Key first.0 first.1) in
    let second = bind-ok (or_fault (cut 43 rest) Key) (spelled_behind name) s first.2 in
    let hash = second.0.0 in
    let word = second.0.1 in
    let behind : hash ++ (43 ∷ word) ≡ rest =
    cut-whole 43 rest hash word (or_fault-ok (cut 43 rest) Key second.0 second.1) in
    let named = only_if-ok (is_name name) Name (bytes_in word >>= spelled_by name hash) s second.2 in
    let read = bind-ok (bytes_in word) (spelled_by name hash) s named.1 in
    let bytes = read.0 in
    let sized = only_if-ok (length bytes == 33) (algorithm_fault Key (get_or bytes 0 0)) _ s read.2 in
    let long : length bytes ≡ 33 = eqb-true (length bytes) 33 sized.0 in
    let rest_are : IsBytes (43 ∷ rest) = back_bytes name (43 ∷ rest) (subst IsBytes (sym whole) are) in
    let word_are : IsBytes (43 ∷ word) =
    back_bytes hash (43 ∷ word) (subst IsBytes (sym behind) (λ i. rest_are (suc i))) in
    let is : word ≡ encode_of standard bytes = strict word bytes (λ i. word_are (suc i)) read.1 in
    let built : Spelled = record { name = name; hash = hash; algorithm = get_or bytes 0 0; bytes = drop 1 bytes } in
    subst (IsSpelling text) (ok_same built s sized.1) (record {
      whole = ap (λ b. name ++ (43 ∷ (hash ++ (43 ∷ encode_of standard b)))) (first-and-rest bytes 32 long)
          ∙ ap (λ w. name ++ (43 ∷ (hash ++ (43 ∷ w)))) (sym is) ∙ ap (λ r. name ++ (43 ∷ r)) behind ∙ whole;
      name_is = named.0;
      long = rest-long bytes 32 long;
    })

pub key-whole : (is_algorithm : ℕ → Bool) (public : List ℕ → List ℕ) (text : List ℕ) (key : KeyParts) → IsBytes text
    → read_key is_algorithm public text ≡ Ok key → (key_text public key ≡ text) × IsNoteKey is_algorithm key
key-whole is_algorithm public text key are e =
    let read = bind-ok (spelled_in text) (checked is_algorithm public) key e in
    let s = read.0 in
    let text_is = spelled-text text s are read.1 in
    let key_is = checked-key is_algorithm public s key read.2 in (
      ap₂ (λ n b. n ++ (43 ∷ (encode_lower (key_hash key.name key.algorithm (public key.bytes)) ++
          (43 ∷ encode_of standard b))))
          (sym key_is.name_is) (sym key_is.bytes_are)
          ∙ ap (λ h. s.name ++ (43 ∷ (h ++ (43 ∷ encode_of standard (s.algorithm ∷ s.bytes)))))
          (sym key_is.hash_is) ∙ text_is.whole,
      record {
        name_is = subst (λ n. is_name n ≡ true) key_is.name_is text_is.name_is;
        algorithm_is = key_is.algorithm_is;
        long = sym key_is.long ∙ text_is.long;
      },
    )
