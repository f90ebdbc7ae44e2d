-- What is read is what its bytes are the writing of.
use Rattle.std.proofs.Common.{zero, suc, ◌≡◌, ℕ, ◌-◌, ◌<◌, ◌≤◌, ◌==◌, true, not, nat_lt, List, [], ◌∷◌, ◌++◌, length, take, drop, Option, Some, None, Result, Ok, inl, inr, All, refl, ap, ap₂, sym, subst, ◌∙◌, arith}
use Rattle.std.proofs.lemmas.Bool.{cases_Bool, eqb-true, ltb-true, ltb-false, not-true}
use Rattle.std.proofs.lemmas.List.{length-drop, length-take-le, take-append-drop}
use Rattle.std.proofs.lemmas.Slice.Eq.{bytes_eq-Decides}
use Rattle.std.specs.Result.{result_ok}
use Rattle.std.specs.Str.{bytes_eq}
use Rattle.base64.specs.Engines.{standard}
use Rattle.base64.specs.GeneralPurpose.{IsBytes, decode_of, encode_of}
use Rattle.base64.proofs.EngineFacts.{decode_of_strict, front_bytes}
use Rattle.signed_notes.specs.Cutting.{cut, cut_at_blank, if_feed, lines_in, onto_first, onto_front, or_here}
use Rattle.signed_notes.specs.Faults.{or_fault}
use Rattle.signed_notes.specs.Notes.{SignatureParts, NoteParts, IsNote, IsSigned, dash, is_ended, is_name, is_text, line_of, signature_lines, most_bytes, most_signatures, note_of}
use Rattle.signed_notes.specs.Reading.{bytes_in, named, note_with, onto, read_note, signature_in, signature_in_line, signatures_behind, signatures_in}
use Rattle.signed_notes.specs.declared.fault.Fault.{Fault}
use Rattle.signed_notes.specs.declared.fault.Fault.TheVariants.{Base64, Line, Name, NoSignatures, NotText, Short, TooLong, TooMany, Unfinished}
use Rattle.signed_notes.proofs.Cuts.{cut_parts}
use Rattle.signed_notes.proofs.Outcomes.{bind-ok, only_if-ok, or_fault-ok, some-ok}

-- ---- lists

pub all-nil : {A : Type 0} (P : A → Type 0) → All P []
all-nil P = λ k d below. absurd (omega arith)

pub all-cons : {A : Type 0} (P : A → Type 0) (x : A) (xs : List A) → P x → All P xs → All P (x ∷ xs)
all-cons P x xs here more zero d below = here
all-cons P x xs here more (suc k) d below = more k d (omega arith)

pub same_bytes : (a b : List ℕ) → bytes_eq a b ≡ true → a ≡ b
same_bytes a b e = (bytes_eq-Decides a b).0 e

-- the bytes behind others
pub back_bytes : (a b : List ℕ) → IsBytes (a ++ b) → IsBytes b
back_bytes [] b h = h
back_bytes (x ∷ a) b h = back_bytes a b (λ i. h (suc i))

-- ---- cuts

cut-onto : (b mark : ℕ) (bytes : List ℕ) (found : Option (List ℕ × List ℕ)) (front rest : List ℕ)
    → ((f r : List ℕ) → found ≡ Some (f, r) → f ++ (mark ∷ r) ≡ bytes)
    → onto_front b found ≡ Some (front, rest) → front ++ (mark ∷ rest) ≡ b ∷ bytes
cut-onto b mark bytes None front rest ih e = absurd cc
cut-onto b mark bytes (Some (f, r)) front rest ih e =
    let same = cut_parts (b ∷ f) r front rest e in
    ap₂ (λ x y. x ++ (mark ∷ y)) (sym same.0) (sym same.1) ∙ ap (λ l. b ∷ l) (ih f r refl)

-- a cut takes the mark away
pub cut-whole : (mark : ℕ) (bytes front rest : List ℕ) → cut mark bytes ≡ Some (front, rest)
    → front ++ (mark ∷ rest) ≡ bytes
cut-whole mark [] front rest e = absurd cc
cut-whole mark (b ∷ bytes) front rest e =
    elim (cases_Bool (b == mark)) [
      | inl is ↦
          let same = cut_parts [] bytes front rest (rw is at e) in
          ap₂ (λ x y. x ++ (mark ∷ y)) (sym same.0) (sym same.1) ∙ ap (λ x. x ∷ bytes) (sym (eqb-true b mark is))
      | inr not ↦ cut-onto b mark bytes (cut mark bytes) front rest (λ f r found. cut-whole mark bytes f r found)
          (rw not at e)
    ]

pub is_ended-more : (b c : ℕ) (bytes : List ℕ) → is_ended (b ∷ c ∷ bytes) ≡ is_ended (c ∷ bytes)
is_ended-more b c bytes =
    let e : suc (suc (length bytes)) - 1 ≡ suc (length bytes) = omega arith in
    let f : suc (length bytes) - 1 ≡ length bytes = omega arith in
    rw (e, f) refl

-- what a cut at an empty line says
record IsCut (bytes text rest : List ℕ) : Type 0 where
  whole : text ++ (10 ∷ rest) ≡ bytes
  ended : is_ended text ≡ true

ended-onto : (b : ℕ) (text : List ℕ) → is_ended text ≡ true → is_ended (b ∷ text) ≡ true
ended-onto b [] e = absurd cc
ended-onto b (c ∷ text) e = is_ended-more b c text ∙ e

blank-feed : (b : ℕ) (bytes text rest : List ℕ) → if_feed b bytes ≡ Some (text, rest) → IsCut (b ∷ bytes) text rest
blank-feed b [] text rest e = absurd cc
blank-feed b (n ∷ bytes) text rest e =
    elim (cases_Bool (b == 10)) [
      | inl is ↦ elim (cases_Bool (n == 10)) [
        | inl next ↦
            let same = cut_parts (b ∷ []) bytes text rest (rw (is, next) at e) in
            record {
              whole = ap₂ (λ x y. x ++ (10 ∷ y)) (sym same.0) (sym same.1) ∙ ap (λ x. b ∷ x ∷ bytes) (sym
                  (eqb-true n 10 next));
              ended = subst (λ t. is_ended t ≡ true) same.0 is;
            }
        | inr not ↦ absurd (let none : None ≡ Some (text, rest) = rw (is, not) at e in cc)
      ]
      | inr not ↦ absurd (let none : None ≡ Some (text, rest) = rw not at e in cc)
    ]

blank-onto : (b : ℕ) (bytes : List ℕ) (found : Option (List ℕ × List ℕ)) (text rest : List ℕ)
    → ((f r : List ℕ) → found ≡ Some (f, r) → IsCut bytes f r)
    → or_here b bytes found ≡ Some (text, rest) → IsCut (b ∷ bytes) text rest
blank-onto b bytes None text rest ih e = blank-feed b bytes text rest e
blank-onto b bytes (Some (f, r)) text rest ih e =
    let same = cut_parts (b ∷ f) r text rest e in
    let before = ih f r refl in
    record {
      whole = ap₂ (λ x y. x ++ (10 ∷ y)) (sym same.0) (sym same.1) ∙ ap (λ l. b ∷ l) before.whole;
      ended = subst (λ t. is_ended t ≡ true) same.0 (ended-onto b f before.ended);
    }

blank-whole : (bytes text rest : List ℕ) → cut_at_blank bytes ≡ Some (text, rest) → IsCut bytes text rest
blank-whole [] text rest e = absurd cc
blank-whole (b ∷ bytes) text rest e =
    blank-onto b bytes (cut_at_blank bytes) text rest (λ f r found. blank-whole bytes f r found) e

-- ---- lines

-- lines, each with a line feed
abbrev pub fed : List (List ℕ) → List ℕ
fed [] = []
fed (line ∷ lines) = line ++ (10 ∷ fed lines)

some-lines : (b : ℕ) (bytes : List ℕ)
    → (line : List ℕ) × (lines : List (List ℕ)) × (lines_in (b ∷ bytes) ≡ line ∷ lines)
some-lines b bytes =
    elim (cases_Bool (b == 10)) [
      | inl is ↦ ([], lines_in bytes, rw is refl)
      | inr not ↦ rw not (some-onto b (lines_in bytes))
    ]
  where
    some-onto : (b : ℕ) (lines : List (List ℕ)) → (line : List ℕ) × (more : List (List ℕ)) ×
        (onto_first b lines ≡ line ∷ more)
    some-onto b [] = (b ∷ [], [], refl)
    some-onto b (line ∷ lines) = (b ∷ line, lines, refl)

-- where the last line is ended, no byte is lost
pub lines-fed : (bytes : List ℕ) → is_ended bytes ≡ true → fed (lines_in bytes) ≡ bytes
lines-fed [] e = absurd cc
lines-fed (b ∷ []) e = rw e (ap (λ x. x ∷ []) (sym (eqb-true b 10 e)))
lines-fed (b ∷ c ∷ bytes) e =
    let ih = lines-fed (c ∷ bytes) (sym (is_ended-more b c bytes) ∙ e) in
    elim (cases_Bool (b == 10)) [
      | inl is ↦ rw is (ap₂ (λ x l. x ∷ l) (sym (eqb-true b 10 is)) ih)
      | inr not ↦
          let some = some-lines c bytes in
          rw not (ap (λ l. fed (onto_first b l)) some.2 ∙ ap (λ l. b ∷ fed l) (sym some.2) ∙ ap (λ l. b ∷ l) ih)
    ]

-- ---- a line

pub strict : (word bytes : List ℕ) → IsBytes word → bytes_in word ≡ Ok bytes → word ≡ encode_of standard bytes
strict word bytes are e =
    decode_of_strict standard word bytes (refl, refl) are (some-ok (decode_of standard word) bytes (or_fault-ok
    (result_ok (decode_of standard word)) Base64 bytes e))

-- what a line says, and that it is its line
record IsLine (line : List ℕ) (s : SignatureParts) : Type 0 where
  line_is : line_of s ≡ line
  signed : IsSigned s

pub ok_same : {A : Type 0} (a b : A) → ◌≡◌ {A = Result A Fault} (Ok a) (Ok b) → a ≡ b
ok_same a b e = cc

named-parts : (name bytes : List ℕ) (s : SignatureParts) → is_name name ≡ true → named name bytes ≡ Ok s
    → (s.name ≡ name) × (s.hash ++ s.bytes ≡ bytes) × IsSigned s
named-parts name bytes s is e =
    let parts = only_if-ok (nat_lt 4 (length bytes)) Short _ s e in
    let long : 4 < length bytes = ltb-true 4 (length bytes) parts.0 in
    let built : SignatureParts = record { name = name; hash = take 4 bytes; bytes = drop 4 bytes } in
    let same : built ≡ s = ok_same built s parts.1 in
    subst (λ (t : SignatureParts). (t.name ≡ name) × (t.hash ++ t.bytes ≡ bytes) × IsSigned t) same (
      refl,
      take-append-drop 4 bytes,
      record {
        name_is = is;
        hash_is = length-take-le 4 bytes (omega arith);
        some = omega (arith, length-drop 4 bytes);
      },
    )

signature-line : (line : List ℕ) (s : SignatureParts) → IsBytes line → signature_in line ≡ Ok s → IsLine line s
signature-line line s bytes e =
    let begun = only_if-ok (bytes_eq (take 4 line) dash) Line _ s e in
    let front : take 4 line ≡ dash = same_bytes (take 4 line) dash begun.0 in
    let cuts = bind-ok (or_fault (cut 32 (drop 4 line)) Line) signature_in_line s begun.1 in
    let name = cuts.0.0 in
    let word = cuts.0.1 in
    let whole : name ++ (32 ∷ word) ≡ drop 4 line =
    cut-whole 32 (drop 4 line) name word (or_fault-ok (cut 32 (drop 4 line)) Line cuts.0 cuts.1) in
    let named_is = only_if-ok (is_name name) Name _ s cuts.2 in
    let read = bind-ok (bytes_in word) (named name) s named_is.1 in
    let parts = named-parts name read.0 s named_is.0 read.2 in
    let rest : IsBytes (drop 4 line) =
    back_bytes (take 4 line) (drop 4 line) (subst IsBytes (sym (take-append-drop 4 line)) bytes) in
    let behind : IsBytes (32 ∷ word) = back_bytes name (32 ∷ word) (subst IsBytes (sym whole) rest) in
    let spelled : word ≡ encode_of standard read.0 = strict word read.0 (λ i. behind (suc i)) read.1 in
    record {
      line_is = ap (λ l. dash ++ l) (ap₂ (λ n b. n ++ (32 ∷ encode_of standard b)) parts.0 parts.1
          ∙ ap (λ w. name ++ (32 ∷ w)) (sym spelled) ∙ whole)
          ∙ ap (λ d. d ++ drop 4 line) (sym front) ∙ take-append-drop 4 line;
      signed = parts.2;
    }

-- what lines say, and that they are theirs
record AreLines (lines : List (List ℕ)) (ss : List SignatureParts) : Type 0 where
  lines_are : signature_lines ss ≡ fed lines
  count : length ss ≡ length lines
  signed : All IsSigned ss

signatures-lines : (lines : List (List ℕ)) (ss : List SignatureParts) → IsBytes (fed lines)
    → signatures_in lines ≡ Ok ss
    → AreLines lines ss
signatures-lines [] ss bytes e = subst (AreLines []) (ok_same [] ss e) (record {
  lines_are = refl;
  count = refl;
  signed = all-nil IsSigned;
})
signatures-lines (line ∷ lines) ss bytes e =
    let first = bind-ok (signature_in line) (λ s. onto s (signatures_in lines)) ss e in
    let more = bind-ok (signatures_in lines) (λ rest. Ok (first.0 ∷ rest)) ss first.2 in
    let one = signature-line line first.0 (front_bytes line (10 ∷ fed lines) bytes) first.1 in
    let ih = signatures-lines lines more.0 (λ i. back_bytes line (10 ∷ fed lines) bytes (suc i)) more.1 in
    subst (AreLines (line ∷ lines)) (ok_same (first.0 ∷ more.0) ss more.2) (record {
      lines_are = ap₂ (λ a b. a ++ (10 ∷ b)) one.line_is ih.lines_are;
      count = ap suc ih.count;
      signed = all-cons IsSigned first.0 more.0 one.signed ih.signed;
    })

-- ---- a note

record AreBehind (bytes : List ℕ) (ss : List SignatureParts) : Type 0 where
  lines_are : signature_lines ss ≡ bytes
  some : 0 < length ss
  few : length ss ≤ most_signatures
  signed : All IsSigned ss

some-lines-in : (bytes : List ℕ) → 0 < length bytes → 0 < length (lines_in bytes)
some-lines-in [] some = absurd (omega arith)
some-lines-in (b ∷ bytes) some = let first = some-lines b bytes in omega (arith, ap length first.2)

signatures-behind : (bytes : List ℕ) (ss : List SignatureParts) → IsBytes bytes → signatures_behind bytes ≡ Ok ss
    → AreBehind bytes ss
signatures-behind bytes ss are e =
    let count = length (lines_in bytes) in
    let some = only_if-ok (nat_lt 0 (length bytes)) NoSignatures _ ss e in
    let ended = only_if-ok (is_ended bytes) Unfinished _ ss some.1 in
    let few = only_if-ok (not (nat_lt most_signatures count)) TooMany _ ss ended.1 in
    let fed_is = lines-fed bytes ended.0 in
    let lines = signatures-lines (lines_in bytes) ss (subst IsBytes (sym fed_is) are) few.1 in
    let least : 0 < count = some-lines-in bytes (ltb-true 0 (length bytes) some.0) in
    let most : count ≤ most_signatures =
    ltb-false most_signatures count (not-true (nat_lt most_signatures count) few.0) in
    record {
      lines_are = lines.lines_are ∙ fed_is;
      some = omega (arith, lines.count, least);
      few = omega (arith, lines.count, most);
      signed = lines.signed;
    }

pub read-whole : (bytes : List ℕ) (note : NoteParts) → IsBytes bytes → read_note bytes ≡ Ok note
    → (note_of note ≡ bytes) × IsNote note
read-whole bytes note are e =
    let short = only_if-ok (not (nat_lt most_bytes (length bytes))) TooLong _ note e in
    let cuts = bind-ok (or_fault (cut_at_blank bytes) NoSignatures) note_with note short.1 in
    let text = cuts.0.0 in
    let rest = cuts.0.1 in
    let whole = blank-whole bytes text rest (or_fault-ok (cut_at_blank bytes) NoSignatures cuts.0 cuts.1) in
    let text_is = only_if-ok (is_text text) NotText _ note cuts.2 in
    let more = bind-ok (signatures_behind rest) (λ signatures. Ok
    (record { text = text; signatures = signatures })) note text_is.1 in
    let behind : IsBytes (10 ∷ rest) = back_bytes text (10 ∷ rest) (subst IsBytes (sym whole.whole) are) in
    let signatures = signatures-behind rest more.0 (λ i. behind (suc i)) more.1 in
    let built : NoteParts = record { text = text; signatures = more.0 } in
    let written : note_of built ≡ bytes = ap (λ l. text ++ (10 ∷ l)) signatures.lines_are ∙ whole.whole in
    let most = ltb-false most_bytes (length bytes) (not-true (nat_lt most_bytes (length bytes)) short.0) in
    subst (λ (n : NoteParts). (note_of n ≡ bytes) × IsNote n) (ok_same built note more.2) (
      written,
      record {
        text_is = text_is.0;
        ended = whole.ended;
        some = signatures.some;
        few = signatures.few;
        signed = signatures.signed;
        short = omega (arith, ap length written, most);
      },
    )
