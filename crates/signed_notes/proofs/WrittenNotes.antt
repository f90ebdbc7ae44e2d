-- What was written is read again.
use Rattle.std.proofs.Common.{suc, ◌≡◌, ℕ, ◌<◌, ◌≤◌, true, List, [], ◌∷◌, ◌++◌, length, drop, Some, None, Ok, All, refl, ap, sym, ◌∙◌, append_assoc, arith, lit<}
use Rattle.std.proofs.lemmas.Bool.{eq-eqb, eqb-true, lt-ltb, le-ltb}
use Rattle.std.proofs.lemmas.List.{length-append, take_at, drop_at}
use Rattle.base64.specs.Engines.{standard}
use Rattle.base64.specs.GeneralPurpose.{IsBytes, encode_of}
use Rattle.base64.proofs.EngineFacts.{decode_of-encode_of}
use Rattle.signed_notes.specs.Cutting.{cut, cut_at_blank, lines_in, onto_front, or_here}
use Rattle.signed_notes.specs.Notes.{AreSignatureBytes, SignatureParts, NoteParts, IsNote, IsSigned, is_ended, line_of, signature_lines, most_bytes, most_signatures, note_of}
use Rattle.signed_notes.specs.Reading.{bytes_in, named, read_note, signature_in, signatures_behind, signatures_in}
use Rattle.signed_notes.specs.Writing.{not_too_long, write_note, written_lines}
use Rattle.signed_notes.proofs.Cuts.{lines-cut}
use Rattle.signed_notes.proofs.Lacking.{Lacks, lacks-append, lacks-base64, lacks-name}
use Rattle.signed_notes.proofs.ReadBack.{is_ended-more, read-whole}

pub cut-written : (mark : ℕ) (front rest : List ℕ) → Lacks mark front
    → cut mark (front ++ (mark ∷ rest)) ≡ Some (front, rest)
cut-written mark [] rest l = rw (eq-eqb mark mark refl) refl
cut-written mark (b ∷ front) rest l = rw l.0 (ap (onto_front b) (cut-written mark front rest l.1))

-- ---- the empty line

blank-none : (b : ℕ) (line rest : List ℕ) → Lacks 10 (b ∷ line) → cut_at_blank (10 ∷ rest) ≡ None
    → cut_at_blank (b ∷ line ++ (10 ∷ rest)) ≡ None
blank-none b [] rest l none = ap (or_here b (10 ∷ rest)) none ∙ rw l.0 refl
blank-none b (c ∷ line) rest l none = ap (or_here b (c ∷ line ++ (10 ∷ rest))) (blank-none c line rest l.1 none)
    ∙ rw l.0 refl

blank-line : (b : ℕ) (line rest : List ℕ) → Lacks 10 (b ∷ line) → cut_at_blank (10 ∷ rest) ≡ None
    → cut_at_blank (10 ∷ b ∷ line ++ (10 ∷ rest)) ≡ None
blank-line b line rest l none = ap (or_here 10 (b ∷ line ++ (10 ∷ rest))) (blank-none b line rest l none) ∙ rw l.0 refl

blank-found : (front rest : List ℕ) → cut_at_blank (10 ∷ rest) ≡ None
    → cut_at_blank (front ++ (10 ∷ 10 ∷ rest)) ≡ Some (front ++ (10 ∷ []), rest)
blank-found [] rest none = ap (or_here 10 (10 ∷ rest)) none
blank-found (b ∷ front) rest none = ap (or_here b (front ++ (10 ∷ 10 ∷ rest))) (blank-found front rest none)

-- ---- what is ended

-- what stands before a last line feed
pub ended-front : (text : List ℕ) → is_ended text ≡ true → (front : List ℕ) × (text ≡ front ++ (10 ∷ []))
ended-front [] e = absurd cc
ended-front (b ∷ []) e = ([], ap (λ x. x ∷ []) (eqb-true b 10 e))
ended-front (b ∷ c ∷ text) e =
    let more = ended-front (c ∷ text) (sym (is_ended-more b c text) ∙ e) in
    (b ∷ more.0, ap (λ l. b ∷ l) more.1)

ended-behind : (front : List ℕ) (b : ℕ) (rest : List ℕ) → is_ended (front ++ (b ∷ rest)) ≡ is_ended (b ∷ rest)
ended-behind [] b rest = refl
ended-behind (x ∷ []) b rest = is_ended-more x b rest
ended-behind (x ∷ y ∷ front) b rest = is_ended-more x y (front ++ (b ∷ rest)) ∙ ended-behind (y ∷ front) b rest

-- ---- a line

-- the line of a signature has no line feed
line-lacks : (s : SignatureParts) → IsSigned s → Lacks 10 (line_of s)
line-lacks s is = (
  refl,
  (
    refl,
    (
      refl,
      (
        refl,
        lacks-append 10 s.name (32 ∷ encode_of standard (s.hash ++ s.bytes))
            (lacks-name 10 s.name (lit< tt) refl is.name_is) (refl, lacks-base64 (s.hash ++ s.bytes)),
      ),
    ),
  ),
)

named-read : (s : SignatureParts) → IsSigned s → named s.name (s.hash ++ s.bytes) ≡ Ok s
named-read s is =
    let four : 4 < length (s.hash ++ s.bytes) = omega (arith, length-append s.hash s.bytes, is.hash_is, is.some) in
    rw (
      lt-ltb 4 (length
          (s.hash ++ s.bytes)) four,
      take_at s.hash s.bytes 4 is.hash_is,
      drop_at s.hash s.bytes 4 is.hash_is,
    ) refl

word-read : (s : SignatureParts) → IsBytes (s.hash ++ s.bytes)
    → bytes_in (encode_of standard (s.hash ++ s.bytes)) ≡ Ok (s.hash ++ s.bytes)
word-read s are = rw (decode_of-encode_of standard (s.hash ++ s.bytes) refl are) refl

line-read : (s : SignatureParts) → IsSigned s → IsBytes (s.hash ++ s.bytes) → signature_in (line_of s) ≡ Ok s
line-read s is are =
    let word = encode_of standard (s.hash ++ s.bytes) in
    let parts = cut-written 32 s.name word (lacks-name 32 s.name (lit< tt) refl is.name_is) in
    rw (parts, is.name_is, word-read s are) (named-read s is)

-- ---- lines

lines-written : (s : SignatureParts) (more : List SignatureParts) → IsSigned s
    → lines_in (signature_lines (s ∷ more)) ≡ line_of s ∷ lines_in (signature_lines more)
lines-written s more is = lines-cut (signature_lines (s ∷ more)) (line_of s) (signature_lines more)
    (cut-written 10 (line_of s)
    (signature_lines more) (line-lacks s is))

-- what stands behind the empty line
pub record AreWritten (ss : List SignatureParts) : Type 0 where
  pub none : cut_at_blank (10 ∷ signature_lines ss) ≡ None
  pub ended : is_ended (10 ∷ signature_lines ss) ≡ true
  pub count : length (lines_in (signature_lines ss)) ≡ length ss
  pub read : signatures_in (lines_in (signature_lines ss)) ≡ Ok ss

written-nil : AreWritten []
written-nil = record { none = refl; ended = refl; count = refl; read = refl }

written-more : (s : SignatureParts) (more : List SignatureParts) → IsSigned s → IsBytes (s.hash ++ s.bytes)
    → AreWritten more
    → AreWritten (s ∷ more)
written-more s more is are ih =
    let lines = lines-written s more is in
    record {
      none = blank-line 226 (drop 1 (line_of s)) (signature_lines more) (line-lacks s is) ih.none;
      ended = ended-behind (10 ∷ line_of s) 10 (signature_lines more) ∙ ih.ended;
      count = ap length lines ∙ ap suc ih.count;
      read = ap signatures_in lines ∙ rw (line-read s is are, ih.read) refl;
    }

written-all : (ss : List SignatureParts) → All IsSigned ss → AreSignatureBytes ss → AreWritten ss
written-all [] signed bytes = written-nil
written-all (s ∷ ss) signed bytes =
    written-more s ss (signed 0 s (omega arith)) (bytes 0 s (omega arith))
    (written-all ss (λ k d below. signed (suc k) d (omega arith)) (λ k d below. bytes (suc k) d (omega arith)))

-- ---- a note

some-lines-of : (ss : List SignatureParts) → 0 < length ss → 0 < length (signature_lines ss)
some-lines-of [] some = absurd (omega arith)
some-lines-of (s ∷ ss) some = omega arith

ended-lines : (ss : List SignatureParts) → 0 < length ss → is_ended (10 ∷ signature_lines ss) ≡ true
    → is_ended (signature_lines ss) ≡ true
ended-lines [] some e = absurd (omega arith)
ended-lines (s ∷ ss) some e = sym (is_ended-more 10 226 (drop 1 (signature_lines (s ∷ ss)))) ∙ e

behind-read : (ss : List SignatureParts) → 0 < length ss → length ss ≤ most_signatures → AreWritten ss
    → signatures_behind (signature_lines ss) ≡ Ok ss
behind-read ss some few are =
    let bytes = signature_lines ss in
    let long : 0 < length bytes = some-lines-of ss some in
    let few_lines : length (lines_in bytes) ≤ most_signatures = omega (arith, are.count, few) in
    rw (
      lt-ltb 0 (length bytes) long,
      ended-lines ss some are.ended,
      le-ltb most_signatures (length (lines_in bytes)) few_lines,
      are.read,
    ) refl

blank-written : (text : List ℕ) (ss : List SignatureParts) → is_ended text ≡ true → AreWritten ss
    → cut_at_blank (text ++ (10 ∷ signature_lines ss)) ≡ Some (text, signature_lines ss)
blank-written text ss ended are =
    let front = ended-front text ended in
    let found = blank-found front.0 (signature_lines ss) are.none in
    ap (λ t. cut_at_blank (t ++ (10 ∷ signature_lines ss))) front.1
    ∙ ap cut_at_blank (append_assoc front.0 (10 ∷ []) (10 ∷ signature_lines ss))
    ∙ found ∙ ap (λ t. Some (t, signature_lines ss)) (sym front.1)

pub read-written : (note : NoteParts) → IsNote note → AreSignatureBytes note.signatures → read_note (note_of note)
    ≡ Ok note
read-written note is are =
    let written = written-all note.signatures is.signed are in
    rw (
      le-ltb most_bytes (length (note_of note)) is.short,
      blank-written note.text note.signatures is.ended written,
      is.text_is,
      behind-read note.signatures is.some is.few written,
    ) refl

-- ---- what is written

lines-are-written : (ss : List SignatureParts) → All IsSigned ss → written_lines ss ≡ Ok (signature_lines ss)
lines-are-written [] signed = refl
lines-are-written (s ∷ ss) signed =
    let is = signed 0 s (omega arith) in
    let ih = lines-are-written ss (λ k d below. signed (suc k) d (omega arith)) in
    rw (is.name_is, lt-ltb 0 (length s.bytes) is.some, ih) (ap (λ l. Ok l) (append_assoc (line_of s) (10 ∷ [])
    (signature_lines ss)))

pub note-written : (note : NoteParts) → IsNote note → write_note note ≡ Ok (note_of note)
note-written note is =
    let whole : (note.text ++ (10 ∷ [])) ++ signature_lines note.signatures ≡ note_of note =
    append_assoc note.text (10 ∷ []) (signature_lines note.signatures) in
    rw (
      is.text_is,
      is.ended,
      lt-ltb 0 (length note.signatures) is.some,
      le-ltb most_signatures (length note.signatures) is.few,
      lines-are-written note.signatures is.signed,
    ) (ap not_too_long whole ∙ rw (le-ltb most_bytes (length (note_of note)) is.short) refl)

pub note-of-read : (bytes : List ℕ) (note : NoteParts) → IsBytes bytes → read_note bytes ≡ Ok note
    → write_note note ≡ Ok bytes
note-of-read bytes note are e =
    let whole = read-whole bytes note are e in
    note-written note whole.1 ∙ ap (λ l. Ok l) whole.0
