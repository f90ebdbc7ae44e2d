-- The text of a checkpoint is read as the checkpoint, and as nothing else.
use Rattle.std.proofs.Common.{suc, ◌≡◌, ℕ, ◌<◌, ◌^◌, ◌==◌, Bool, true, false, not, nat_lt, List, [], ◌∷◌, ◌++◌, length, get_or, Option, Some, None, is_none, Ok, inl, inr, refl, ap, ap₂, sym, subst, ◌∙◌, arith}
use Rattle.std.proofs.lemmas.Bool.{and_parts, cases_Bool, cases_eq, eq-eqb, eqb-true, lt-ltb, le-ltb, ltb-true, ne_eqb, not-true, and_left, and_right, and_from}
use Rattle.std.proofs.lemmas.Fmt.{decimal-digits_value, decimal_digit, decimal_nonempty, digits_decimal, digits_value-decimal, first_decimal}
use Rattle.std.proofs.lemmas.Str.Parse.{IsNumeralModel, numerals_by_value, tells_all_ascii_digits}
use Rattle.std.specs.Char.{is_ascii_digit}
use Rattle.std.specs.Fmt.{decimal}
use Rattle.std.specs.Prelude.{◌&&◌, if◌then◌else◌}
use Rattle.std.specs.Str.{all_ascii_digits}
use Rattle.std.specs.Str.Parse.{digits_value}
use Rattle.base64.specs.Engines.{standard}
use Rattle.base64.specs.GeneralPurpose.{IsBytes, encode_of}
use Rattle.base64.proofs.EngineFacts.{decode_of-encode_of, front_bytes}
use Rattle.decimals.specs.Decimals.{is_number, decimal_number}
use Rattle.signed_notes.specs.Checkpoints.{CheckpointParts, IsCheckpoint, are_extensions, checkpoint_behind, checkpoint_from, checkpoint_of, checkpoint_rooted, checkpoint_sized, checkpoint_with, is_line, is_origin, read_checkpoint, write_checkpoint}
use Rattle.signed_notes.specs.Cutting.{cut, onto_front}
use Rattle.signed_notes.specs.Faults.{or_fault}
use Rattle.signed_notes.specs.Notes.{is_text}
use Rattle.signed_notes.specs.Reading.{bytes_in}
use Rattle.signed_notes.specs.declared.fault.Fault.TheVariants.{Extensions, Origin, Root, Size, Unfinished}
use Rattle.signed_notes.proofs.Cuts.{cut_parts}
use Rattle.signed_notes.proofs.Lacking.{Lacks, lacks-base64}
use Rattle.signed_notes.proofs.Outcomes.{bind-ok, only_if-ok, or_fault-ok}
use Rattle.signed_notes.proofs.ReadBack.{back_bytes, cut-whole, ok_same, strict}
use Rattle.signed_notes.proofs.WrittenNotes.{cut-written}

-- ---- cuts

uncut-onto : (mark b : ℕ) (found : Option (List ℕ × List ℕ)) → onto_front b found ≡ None → found ≡ None
uncut-onto mark b None e = refl
uncut-onto mark b (Some found) e = absurd cc

-- bytes that are not cut lack the mark
lacks-uncut : (mark : ℕ) (bytes : List ℕ) → cut mark bytes ≡ None → Lacks mark bytes
lacks-uncut mark [] e = tt
lacks-uncut mark (b ∷ bytes) e =
    elim (cases_Bool (b == mark)) [
      | inl is ↦ absurd (let whole : Some ([], bytes) ≡ None = rw is at e in cc)
      | inr not ↦ (not, lacks-uncut mark bytes (uncut-onto mark b (cut mark bytes) (rw not at e)))
    ]

uncut-lacks : (mark : ℕ) (bytes : List ℕ) → Lacks mark bytes → cut mark bytes ≡ None
uncut-lacks mark [] l = refl
uncut-lacks mark (b ∷ bytes) l = rw l.0 (ap (onto_front b) (uncut-lacks mark bytes l.1))

front-onto : (mark b : ℕ) (found : Option (List ℕ × List ℕ)) (front rest : List ℕ) → (b == mark) ≡ false
    → ((f r : List ℕ) → found ≡ Some (f, r) → Lacks mark f) → onto_front b found ≡ Some (front, rest) → Lacks mark front
front-onto mark b None front rest not ih e = absurd cc
front-onto mark b (Some (f, r)) front rest not ih e =
    subst (Lacks mark) (cut_parts (b ∷ f) r front rest e).0 (not, ih f r refl)

-- what stands before the first mark lacks it
lacks-front : (mark : ℕ) (bytes front rest : List ℕ) → cut mark bytes ≡ Some (front, rest) → Lacks mark front
lacks-front mark [] front rest e = absurd cc
lacks-front mark (b ∷ bytes) front rest e =
    elim (cases_Bool (b == mark)) [
      | inl is ↦ subst (Lacks mark) (cut_parts [] bytes front rest (rw is at e)).0 tt
      | inr not ↦ front-onto mark b (cut mark bytes) front rest not (λ f r found. lacks-front mark bytes f r found)
          (rw not at e)
    ]

none-is : (found : Option (List ℕ × List ℕ)) → is_none found ≡ true → found ≡ None
none-is None e = refl
none-is (Some found) e = absurd cc

-- ---- sizes

numerals : IsNumeralModel (λ ds. all_ascii_digits ds ≡ true) (digits_value 10)
numerals = numerals_by_value (λ ds. all_ascii_digits ds ≡ true) tells_all_ascii_digits

lacks-digits : (ds : List ℕ) → all_ascii_digits ds ≡ true → Lacks 10 ds
lacks-digits [] e = tt
lacks-digits (d ∷ ds) e =
    let parts = and_parts (is_ascii_digit d) (all_ascii_digits ds) e in (
      ne_eqb d 10 (λ same. let bad : is_ascii_digit 10 ≡ true = subst
          (λ x. is_ascii_digit x ≡ true) same parts.0 in absurd cc),
      lacks-digits ds parts.1,
    )

pub lacks-decimal : (n : ℕ) → n < 2 ^ 64 → Lacks 10 (decimal n)
lacks-decimal n fits = lacks-digits (decimal n) (digits_decimal numerals n fits)

-- no zero stands before other digits
no-zero : (n : ℕ) → n < 2 ^ 64 → (nat_lt 1 (length (decimal n)) && (get_or (decimal n) 0 0 == 48)) ≡ false
no-zero n fits = elim (cases_eq n 0) [
  | inl none ↦
      let one : length (decimal n) ≡ 1 = ap length (decimal_digit n (omega arith)) in
      and_left (nat_lt 1 (length (decimal n))) (get_or (decimal n) 0 0 == 48)
      (le-ltb 1 (length (decimal n)) (omega (arith, one)))
  | inr some ↦ and_right (nat_lt 1 (length (decimal n))) (get_or (decimal n) 0 0 == 48) (ne_eqb (get_or
      (decimal n) 0 0) 48 (λ same. omega (arith, first_decimal n (omega arith) fits, same)))
]

pub number-read : (n : ℕ) → n < 2 ^ 64 → decimal_number (decimal n) ≡ Some n
number-read n fits =
    let value : digits_value 10 (decimal n) ≡ n = digits_value-decimal numerals n fits in
    rw (
      lt-ltb 0 (length (decimal n)) (decimal_nonempty n fits),
      digits_decimal numerals n fits,
      no-zero n fits,
      value,
      lt-ltb n (2 ^ 64) fits,
    ) refl

-- a number and its digits
pub record IsNumber (ds : List ℕ) (n : ℕ) : Type 0 where
  pub digits_are : decimal n ≡ ds
  pub fits : n < 2 ^ 64

only_some : {A : Type 0} (holds : Bool) (x y : A) → (if holds then Some x else None) ≡ Some y → (holds ≡ true) × (x ≡ y)
only_some true x y e = (refl, cc)
only_some false x y e = absurd cc

one-or-other : (ds : List ℕ) → (nat_lt 1 (length ds) && (get_or ds 0 0 == 48)) ≡ false → 0 < length ds
    → get_or ds 0 0 ≡ 48 → length ds ≡ 1
one-or-other [] e some zero_first = absurd (omega arith)
one-or-other (d ∷ []) e some zero_first = refl
one-or-other (d ∷ c ∷ ds) e some zero_first = absurd (let bad : true ≡ false =
    rw (lt-ltb 1 (length (d ∷ c ∷ ds)) (omega arith), eq-eqb d 48 zero_first) at e in cc)

pub number-whole : (ds : List ℕ) (n : ℕ) → decimal_number ds ≡ Some n → IsNumber ds n
number-whole ds n e =
    let whole = only_some (is_number ds) (digits_value 10 ds) n e in
    let some = and_parts (nat_lt 0 (length ds)) _ whole.0 in
    let digits = and_parts (all_ascii_digits ds) _ some.1 in
    let plain = and_parts (not (nat_lt 1 (length ds) && (get_or ds 0 0 == 48))) (nat_lt (digits_value 10 ds)
    (2 ^ 64)) digits.1 in
    let least : 0 < length ds = ltb-true 0 (length ds) some.0 in
    let fits : digits_value 10 ds < 2 ^ 64 = ltb-true (digits_value 10 ds) (2 ^ 64) plain.1 in
    subst (IsNumber ds) whole.1 (record {
      digits_are = decimal-digits_value numerals ds digits.0 least
          (one-or-other ds (not-true (nat_lt 1 (length ds) && (get_or ds 0 0 == 48)) plain.0) least) fits;
      fits = fits;
    })

-- ---- checkpoints

pub checkpoint-read : (c : CheckpointParts) → IsCheckpoint c → IsBytes c.root → read_checkpoint (checkpoint_of c) ≡ Ok c
checkpoint-read c is are =
    let word = encode_of standard c.root in
    let origin = and_parts (is_text c.origin) (is_line c.origin && is_none (cut 10 c.origin)) is.origin_is in
    let line = and_parts (is_line c.origin) (is_none (cut 10 c.origin)) origin.1 in
    rw (
      cut-written 10 c.origin (decimal c.size ++ (10 ∷ (word ++ (10 ∷ c.extensions))))
          (lacks-uncut 10 c.origin (none-is (cut 10 c.origin) line.1)),
      origin.0,
      line.0,
      cut-written 10 (decimal c.size) (word ++ (10 ∷ c.extensions)) (lacks-decimal c.size is.fits),
      number-read c.size is.fits,
      cut-written 10 word c.extensions (lacks-base64 c.root),
      decode_of-encode_of standard c.root refl are,
      eq-eqb (length c.root) 32 is.long,
      is.extensions_are,
    ) refl

-- what stands behind the origin
record IsBehind (origin rest : List ℕ) (c : CheckpointParts) : Type 0 where
  whole : decimal c.size ++ (10 ∷ (encode_of standard c.root ++ (10 ∷ c.extensions))) ≡ rest
  origin_is : c.origin ≡ origin
  fits : c.size < 2 ^ 64
  long : length c.root ≡ 32
  extensions_are : are_extensions c.extensions ≡ true

behind-whole : (origin line rest : List ℕ) (c : CheckpointParts) → IsBytes rest
    → checkpoint_behind origin (line, rest) ≡ Ok c → IsBehind origin (line ++ (10 ∷ rest)) c
behind-whole origin line rest c are e =
    let sized = bind-ok (or_fault (decimal_number line) Size) (checkpoint_sized origin rest) c e in
    let size = sized.0 in
    let number = number-whole line size (or_fault-ok (decimal_number line) Size size sized.1) in
    let rooted = bind-ok (or_fault (cut 10 rest) Unfinished) (checkpoint_rooted origin size) c sized.2 in
    let word = rooted.0.0 in
    let extensions = rooted.0.1 in
    let whole : word ++ (10 ∷ extensions) ≡ rest =
    cut-whole 10 rest word extensions (or_fault-ok (cut 10 rest) Unfinished rooted.0 rooted.1) in
    let read = bind-ok (bytes_in word) (checkpoint_with origin size extensions) c rooted.2 in
    let root = read.0 in
    let long = only_if-ok (length root == 32) Root _ c read.2 in
    let ended = only_if-ok (are_extensions extensions) Extensions _ c long.1 in
    let word_are : IsBytes word = front_bytes word (10 ∷ extensions) (subst IsBytes (sym whole) are) in
    let is : word ≡ encode_of standard root = strict word root word_are read.1 in
    let built : CheckpointParts = record { origin = origin; size = size; root = root; extensions = extensions } in
    subst (IsBehind origin (line ++ (10 ∷ rest))) (ok_same built c ended.1) (record {
      whole = ap₂ (λ d r. d ++ (10 ∷ r)) number.digits_are
          (ap (λ w. w ++ (10 ∷ extensions)) (sym is) ∙ whole);
      origin_is = refl;
      fits = number.fits;
      long = eqb-true (length root) 32 long.0;
      extensions_are = ended.0;
    })

pub checkpoint-whole : (text : List ℕ) (c : CheckpointParts) → IsBytes text → read_checkpoint text ≡ Ok c
    → (checkpoint_of c ≡ text) × IsCheckpoint c
checkpoint-whole text c are e =
    let first = bind-ok (or_fault (cut 10 text) Unfinished) checkpoint_from c e in
    let origin = first.0.0 in
    let rest = first.0.1 in
    let cuts = or_fault-ok (cut 10 text) Unfinished first.0 first.1 in
    let whole : origin ++ (10 ∷ rest) ≡ text = cut-whole 10 text origin rest cuts in
    let origin_is = only_if-ok (is_text origin && is_line origin) Origin _ c first.2 in
    let parts = and_parts (is_text origin) (is_line origin) origin_is.0 in
    let second = bind-ok (or_fault (cut 10 rest) Unfinished) (checkpoint_behind origin) c origin_is.1 in
    let line = second.0.0 in
    let more = second.0.1 in
    let behind : line ++ (10 ∷ more) ≡ rest =
    cut-whole 10 rest line more (or_fault-ok (cut 10 rest) Unfinished second.0 second.1) in
    let rest_are : IsBytes (10 ∷ rest) = back_bytes origin (10 ∷ rest) (subst IsBytes (sym whole) are) in
    let more_are : IsBytes (10 ∷ more) =
    back_bytes line (10 ∷ more) (subst IsBytes (sym behind) (λ i. rest_are (suc i))) in
    let is = behind-whole origin line more c (λ i. more_are (suc i)) second.2 in
    let alone : is_none (cut 10 origin) ≡ true =
    ap is_none (uncut-lacks 10 origin (lacks-front 10 text origin rest cuts)) in (
      ap (λ o. o ++ (10 ∷ (decimal c.size ++ (10 ∷ (encode_of standard c.root ++ (10 ∷ c.extensions)))))) is.origin_is
          ∙ ap (λ r. origin ++ (10 ∷ r)) (is.whole ∙ behind) ∙ whole,
      record {
        origin_is = subst (λ o. is_origin o ≡ true) (sym is.origin_is)
            (and_from (is_text origin) (is_line origin && is_none (cut 10 origin)) parts.0
            (and_from (is_line origin) (is_none (cut 10 origin)) parts.1 alone));
        fits = is.fits;
        long = is.long;
        extensions_are = is.extensions_are;
      },
    )

pub checkpoint-written : (c : CheckpointParts) → IsCheckpoint c → write_checkpoint c ≡ Ok (checkpoint_of c)
checkpoint-written c is = rw (is.origin_is, is.extensions_are) refl
